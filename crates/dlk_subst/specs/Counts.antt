-- How many trees there are within trees, equal ones counted once.
use Rattle.std.specs.Prelude.{ℕ, List, [], ◌∷◌, ◌++◌}
use Rattle.std.specs.List.{flat_map}
use Rattle.std.specs.Set as set
use Rattle.dlk_tree.specs.Trees.{Tree, node, Forest, no_kids, kid}
use Rattle.dlk_tree.specs.TreeTests.{tree_eq}
use Rattle.dlk_calculus.specs.Pairs.{Pair}

-- the trees within a tree, itself first, each as often as it stands there
abbrev mutual
  pub subtrees : Tree → List Tree
  subtrees (node op kids) = node op kids ∷ subtrees_of kids

  pub subtrees_of : Forest → List Tree
  subtrees_of no_kids = []
  subtrees_of (kid t rest) = subtrees t ++ subtrees_of rest

-- the trees within the replacements
abbrev pub replacement_subtrees : List Pair → List Tree
replacement_subtrees pairs = flat_map (λ (p : Pair). subtrees p.by) pairs

-- how many trees there are in the list, equal ones counted once
abbrev pub distinct_count : List Tree → ℕ
distinct_count trees = set.distinct_count tree_eq trees
