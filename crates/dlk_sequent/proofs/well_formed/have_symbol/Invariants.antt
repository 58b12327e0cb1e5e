use Rattle.std.proofs.Common.{◌≡◌, drop}
use Rattle.std.specs.List.{list_any}
use Rattle.dlk_tree.specs.Tests.{sym_eq}
use Rattle.dlk_sequent.specs.declared.subst.Pair.{Pair}
use Rattle.dlk_sequent.proofs.well_formed.have_symbol.Given as goal

-- the symbol is looked for in the pairs that are left
abbrev pub invariant-loop-pair : goal.invariant-loop-pair
invariant-loop-pair l = list_any (λ (p : Pair). sym_eq l.s p.sym) l.pairs ≡ list_any (λ (p : Pair). sym_eq l.s p.sym) (drop l.pair-index l.pairs)
