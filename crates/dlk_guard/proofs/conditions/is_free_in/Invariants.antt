use Rattle.std.proofs.Common.{◌≡◌, drop}
use Rattle.dlk_store.specs.Stores.{kid_trees}
use Rattle.dlk_guard.specs.Instances.{is_free_in}
use Rattle.dlk_guard.proofs.conditions.is_free_in.Given as goal

-- in none of the trees so far
abbrev pub invariant-loop-id : goal.invariant-loop-id
invariant-loop-id g l =
    let trees = kid_trees (g.S.Store.trees l.store) in
    is_free_in (trees l.ids) l.v ≡ is_free_in (trees (drop l.id-index l.ids)) l.v
