use Rattle.std.proofs.Common.{◌≡◌, ◌||◌, drop}
use Rattle.dlk_tree.specs.Occurs.{any_has, has_hole, is_hole}
use Rattle.dlk_tree.specs.Trees.{node}
use Rattle.dlk_store.specs.Stores.{kid_trees}
use Rattle.dlk_shared.specs.Nodes.{trees_of}
use Rattle.dlk_shared.proofs.store.SharedStore.hole_over.Given as goal

abbrev pub invariant-loop-k : goal.invariant-loop-k
invariant-loop-k l =
    let trees = trees_of l.self.ops.keys l.self.nodes.entries in
    (l.hole || any_has is_hole (kid_trees trees (drop l.k-index l.kids))) ≡ has_hole (node l.op (kid_trees trees l.kids))
