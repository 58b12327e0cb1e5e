use Rattle.std.proofs.Common.{◌≡◌}
use Rattle.dlk_store.specs.Stores.{IsId, tree}
use Rattle.dlk_tree.specs.Trees.{sort}
use Rattle.dlk_tree.specs.declared.op.Sort.TheVariants.{Term}
use Rattle.dlk_tests_parts.proofs.tests.stores.sharing.behind_signs.Given as goal

abbrev pub invariant-loop-level : goal.invariant-loop-level
invariant-loop-level g l =
    let trees = g.S.Store.trees l.store in
    record { known : IsId trees l.id; term : sort (tree trees l.id) ≡ Term }
