use Rattle.std.proofs.Common.{◌≡◌, map, drop}
use Rattle.std.specs.List.{list_all}
use Rattle.dlk_store.specs.Stores.{tree}
use Rattle.dlk_calculus.specs.Arithmetic.{is_arithmetic_tree}
use Rattle.dlk_sequent.proofs.arithmetic.are_arithmetic_trees.Given as goal

-- the trees so far are of arithmetic
abbrev pub invariant-loop-id : goal.invariant-loop-id
invariant-loop-id g l =
    let trees = map (tree (g.S.Store.trees l.store)) in
    list_all is_arithmetic_tree (trees l.ids) ≡ list_all is_arithmetic_tree (trees (drop l.id-index l.ids))
