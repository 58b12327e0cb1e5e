use Rattle.std.proofs.Common.{◌≡◌, map, drop}
use Rattle.std.specs.List.{list_any}
use Rattle.dlk_tree.specs.Statics.{free}
use Rattle.dlk_store.specs.Stores.{tree}
use Rattle.dlk_smt.proofs.script.is_free_in_any.Given as goal

-- it is not free in the trees so far
abbrev pub invariant-loop-id : goal.invariant-loop-id
invariant-loop-id g l =
    let trees = map (tree (g.S.Store.trees l.store)) in
    list_any (λ t. free t l.v) (trees l.ids) ≡ list_any (λ t. free t l.v) (trees (drop l.id-index l.ids))
