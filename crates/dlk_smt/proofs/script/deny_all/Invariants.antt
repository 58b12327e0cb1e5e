use Rattle.std.proofs.Common.{◌≡◌, ◌++◌, map, drop}
use Rattle.dlk_store.specs.Stores.{tree}
use Rattle.dlk_smt.specs.Smt.{assertions, denied}
use Rattle.dlk_smt.proofs.script.deny_all.Given as goal

-- the lines so far and those that are left are all of them
abbrev pub invariant-loop-id : goal.invariant-loop-id
invariant-loop-id g l =
    let trees = map (tree (g.S.Store.trees l.store)) in
    l.out.items ++ assertions (map denied (trees (drop l.id-index l.ids))) ≡ l.fn.out.items ++ assertions (map denied (trees l.ids))
