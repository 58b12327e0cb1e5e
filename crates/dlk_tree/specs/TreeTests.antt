-- When two trees are equal, as a test.
use Rattle.std.specs.Prelude.{Bool, true, false, ◌&&◌}
use Rattle.dlk_tree.specs.contracts.op.OpPartialEq.TheImpl as OpEq
use Rattle.dlk_tree.specs.Trees.{Tree, node, Forest, no_kids, kid}

abbrev mutual
  pub tree_eq : Tree → Tree → Bool
  tree_eq (node f ms) (node g ns) = OpEq.ghosts.eq f g && forest_eq ms ns

  pub forest_eq : Forest → Forest → Bool
  forest_eq no_kids no_kids = true
  forest_eq no_kids (kid t ts) = false
  forest_eq (kid s ss) no_kids = false
  forest_eq (kid s ss) (kid t ts) = tree_eq s t && forest_eq ss ts
