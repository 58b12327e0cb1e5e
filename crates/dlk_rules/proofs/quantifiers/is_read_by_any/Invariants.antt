use Rattle.std.proofs.Common.{◌≡◌, false, take}
use Rattle.std.specs.List.{list_any}
use Rattle.dlk_tree.specs.Statics.{free}
use Rattle.dlk_store.specs.Stores.{tree}
use Rattle.dlk_rules.proofs.quantifiers.is_read_by_any.Given as goal

-- it is free in none of the formulas so far
abbrev pub invariant-loop-id : goal.invariant-loop-id
invariant-loop-id g l = list_any (λ id. free (tree (g.S.Store.trees l.store) id) l.v) (take l.id-index l.formulas) ≡ false
