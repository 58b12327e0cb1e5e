use Rattle.std.proofs.Common.{take}
use Rattle.std.specs.List.{list_any}
use Rattle.dlk_tree.specs.Occurs.{constants}
use Rattle.dlk_tree.specs.Tests.{sym_eq}
use Rattle.dlk_shared.specs.Signs.{Signs, KeepsSigns}
use Rattle.dlk_shared.proofs.signs.SignTable.constants.Given as goal

abbrev pub invariant-loop-item : goal.invariant-loop-item
invariant-loop-item l = record {
  keeps : KeepsSigns l.fn.self l.self;
  signs : Signs l.self l.all (λ s. list_any (sym_eq s) (constants (take l.item-index l.items)));
}
