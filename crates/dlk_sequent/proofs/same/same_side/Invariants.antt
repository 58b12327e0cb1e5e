use Rattle.std.proofs.Common.{◌≡◌, map, take}
use Rattle.dlk_store.specs.Stores.{tree}
use Rattle.dlk_sequent.proofs.same.same_side.Given as goal

-- the first i trees are the same
abbrev pub invariant-loop-i : goal.invariant-loop-i
invariant-loop-i g l =
    let trees = map (tree (g.S.Store.trees l.store)) in
    trees (take l.i l.a) ≡ trees (take l.i l.b)
