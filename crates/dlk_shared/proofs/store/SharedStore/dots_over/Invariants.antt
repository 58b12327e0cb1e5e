use Rattle.std.proofs.Common.{◌≡◌, ℕ, ◌==◌, ◌||◌, drop}
use Rattle.std.specs.Int.{bit_at}
use Rattle.dlk_tree.specs.Occurs.{any_has, has_dot, is_dot}
use Rattle.dlk_tree.specs.Trees.{node}
use Rattle.dlk_store.specs.Stores.{kid_trees}
use Rattle.dlk_shared.specs.Nodes.{trees_of}
use Rattle.dlk_shared.proofs.store.SharedStore.dots_over.Given as goal

abbrev pub invariant-loop-k : goal.invariant-loop-k
invariant-loop-k l =
    let trees = trees_of l.self.ops.keys l.self.nodes.entries in
    (n : ℕ) → ((bit_at l.dots n == 1) || any_has (is_dot n) (kid_trees trees (drop l.k-index l.kids))) ≡ has_dot n (node l.op (kid_trees trees l.kids))
