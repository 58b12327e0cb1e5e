-- Nodes in a row, each an operator over kids that stand before it.
use Rattle.std.specs.Prelude.{ℕ, ◌<◌, List, [], ◌∷◌, ◌++◌, length, All, slice_index_or}
use Rattle.dlk_tree.specs.declared.op.Op.{Op}
use Rattle.dlk_tree.specs.Trees.{Tree, node}
use Rattle.dlk_tree.specs.Table.{Fits}
use Rattle.dlk_store.specs.declared.Id.{Id}
use Rattle.dlk_store.specs.Stores.{kid_trees, sorts_at}

-- an operator and the ids of its kids
pub record Row : Type 0 where
  pub op : Op
  pub kids : List Id

-- the tree of a row, its kids being among these trees
abbrev pub tree_of : List Tree → Row → Tree
tree_of trees r = node r.op (kid_trees trees r.kids)

-- the trees of further rows, after these
abbrev pub trees_after : List Tree → List Row → List Tree
trees_after trees [] = trees
trees_after trees (r ∷ rs) = trees_after (trees ++ tree_of trees r ∷ []) rs

-- what the rows stand for
abbrev pub trees_of_rows : List Row → List Tree
trees_of_rows rows = trees_after [] rows

-- each row's kids stand before it and fit its operator
pub record AreSoundRows (rows : List Row) : Type 0 where
  pub before : (k : ℕ) (d : Row) → k < length rows → All (λ id. id.0 < k) (slice_index_or rows k d).kids
  pub fit : (k : ℕ) (d : Row) → k < length rows → Fits (slice_index_or rows k d).op (sorts_at (trees_of_rows rows) (slice_index_or rows k d).kids)
