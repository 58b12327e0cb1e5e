-- How many nodes a substitution looks at, at most.
pub use Rattle.dlk_subst.specs.Counts.{subtrees, subtrees_of, replacement_subtrees, distinct_count}
use Rattle.std.specs.Prelude.{ℕ, ◌+◌, ◌*◌, List}
use Rattle.dlk_tree.specs.Trees.{Tree}
use Rattle.dlk_calculus.specs.Pairs.{Pair}

-- the number of unlike subtrees of the tree, times one more than the number of unlike subtrees of the replacements
abbrev pub most_looks : List Pair → Tree → ℕ
most_looks pairs t = distinct_count (subtrees t) * (1 + distinct_count (replacement_subtrees pairs))
