-- The nodes that a tree still lacks.
use Rattle.std.specs.Prelude.{if◌then◌else◌, List, [], ◌∷◌, ◌++◌}
use Rattle.dlk_tree.specs.Trees.{Tree, node, Forest, no_kids, kid}
use Rattle.dlk_nodes.specs.Nodes.{has_node}

-- the subtrees that have no node yet, kids before parents and left before right
abbrev mutual
  pub new_nodes : List Tree → Tree → List Tree
  new_nodes nodes (node op kids) = if has_node nodes (node op kids) then [] else new_in_kids nodes kids ++ node op kids ∷ []

  pub new_in_kids : List Tree → Forest → List Tree
  new_in_kids nodes no_kids = []
  new_in_kids nodes (kid t rest) = new_nodes nodes t ++ new_in_kids (nodes ++ new_nodes nodes t) rest

-- those of several trees in turn
abbrev pub new_in_each : List Tree → List Tree → List Tree
new_in_each nodes [] = []
new_in_each nodes (t ∷ ts) = new_nodes nodes t ++ new_in_each (nodes ++ new_nodes nodes t) ts
