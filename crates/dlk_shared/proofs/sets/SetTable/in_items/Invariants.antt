use Rattle.std.proofs.Common.{take}
use Rattle.dlk_shared.specs.SetTables.{Means, Keeps}
use Rattle.dlk_shared.specs.Shapes.{in_items}
use Rattle.dlk_shared.proofs.sets.SetTable.in_items.Given as goal

abbrev pub invariant-loop-item : goal.invariant-loop-item
invariant-loop-item l = record {
  keeps : Keeps l.initial.self l.self;
  means : Means l.self l.all (in_items l.which (take l.item-index l.items));
}
