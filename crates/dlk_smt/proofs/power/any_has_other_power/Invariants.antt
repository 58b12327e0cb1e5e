use Rattle.std.proofs.Common.{◌≡◌, map, drop}
use Rattle.std.specs.List.{list_any}
use Rattle.dlk_store.specs.Stores.{tree}
use Rattle.dlk_smt.specs.Smt.{has_other_power}
use Rattle.dlk_smt.proofs.power.any_has_other_power.Given as goal

-- the trees so far have no such power
abbrev pub invariant-loop-id : goal.invariant-loop-id
invariant-loop-id g l =
    let trees = map (tree (g.S.Store.trees l.store)) in
    list_any has_other_power (trees l.ids) ≡ list_any has_other_power (trees (drop l.id-index l.ids))
