use Rattle.std.proofs.Common.{take}
use Rattle.std.specs.Prelude.{map}
use Rattle.dlk_shared.specs.SetTables.{Means, Keeps, sets_at, in_kids}
use Rattle.dlk_shared.proofs.sets.SetTable.in_kids.Given as goal

abbrev pub invariant-loop-kid : goal.invariant-loop-kid
invariant-loop-kid l = record {
  keeps : Keeps l.initial.self l.self;
  means : Means l.self l.all (in_kids l.which (map (sets_at l.initial.self) (take l.kid-index l.kids)));
}
