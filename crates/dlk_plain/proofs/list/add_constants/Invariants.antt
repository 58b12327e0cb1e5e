use Rattle.std.proofs.Common.{drop}
use Rattle.std.specs.List.{list_any}
use Rattle.dlk_tree.specs.Tests.{sym_eq}
use Rattle.dlk_tree.specs.Occurs.{constants}
use Rattle.dlk_plain.proofs.Owed.{Owes}
use Rattle.dlk_plain.proofs.list.add_constants.Given as goal

abbrev pub invariant-loop-item : goal.invariant-loop-item
invariant-loop-item l = Owes sym_eq (λ t. list_any (sym_eq t) (constants (drop l.item-index l.items))) (λ t. list_any (sym_eq t) (constants l.items))
    l.fn.syms.keys l.syms.keys
