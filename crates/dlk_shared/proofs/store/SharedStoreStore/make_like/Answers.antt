use Rattle.std.proofs.Common.{sym, ap, ◌∙◌}
use Rattle.dlk_tree.specs.Trees.{node, root}
use Rattle.dlk_store.specs.Stores.{kid_trees}
use Rattle.dlk_shared.specs.Nodes.{trees_of}
use Rattle.dlk_shared.proofs.Found.{kids_decides}
use Rattle.dlk_shared.proofs.store.SharedStoreStore.make_like.Goals as goal

-- over its own kids it is the tree itself
pub returns-then-eq-clause-made : goal.returns-then-eq-clause-made
returns-then-eq-clause-made c =
    let s = c.args.self.now in
    let trees = trees_of s.ops.keys s.nodes.entries in
    let is = c.key-key.ensures.node in
    let same = sym c.as_slice.ensures ∙ (kids_decides c.as_slice.result.now c.args.kids.now).0 (sym c.eq.ensures ∙ c.if-eq.true) in
    record {
      known = c.requires.like;
      tree_is = is ∙ (λ i. node (sym (ap root is) i) (kid_trees trees (same i)));
    }
