use Rattle.std.proofs.Common.{◌≡◌, map, drop}
use Rattle.std.specs.List.{list_all}
use Rattle.dlk_store.specs.Stores.{tree}
use Rattle.dlk_kernel.specs.Limits.{is_within}
use Rattle.dlk_kernel.proofs.limits.are_within.Given as goal

-- the trees so far are within the limit
abbrev pub invariant-loop-id : goal.invariant-loop-id
invariant-loop-id g l =
    let trees = map (tree (g.S.Store.trees l.store)) in
    list_all (is_within l.measure) (trees l.ids) ≡ list_all (is_within l.measure) (trees (drop l.id-index l.ids))
