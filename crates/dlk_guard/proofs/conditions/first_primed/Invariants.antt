use Rattle.std.proofs.Common.{◌≡◌, drop}
use Rattle.dlk_store.specs.Stores.{kid_trees}
use Rattle.dlk_guard.specs.Instances.{first_primed}
use Rattle.dlk_guard.proofs.conditions.first_primed.Given as goal

-- none of the items so far is one
abbrev pub invariant-loop-item : goal.invariant-loop-item
invariant-loop-item g l =
    let kids = kid_trees (g.S.Store.trees l.store) l.ids in
    first_primed l.items kids ≡ first_primed (drop l.item-index l.items) kids
