-- The two tables of a store: operators, and nodes with the numbers of their operators.
use Rattle.std.specs.Prelude.{ℕ, ◌<◌, List, map, length, All, slice_index_or}
use Rattle.dlk_tree.specs.declared.op.Op.{Op}
use Rattle.dlk_tree.specs.declared.op.Op.TheVariants.{True}
use Rattle.dlk_tree.specs.Trees.{Tree, node, no_kids}
use Rattle.dlk_shared.specs.Rows.{Row, trees_of_rows, AreSoundRows}
use Rattle.dlk_shared.specs.declared.node.Key.{Key}
use Rattle.dlk_shared.specs.declared.node.Facts.{Facts}

-- the operator of a number
abbrev pub op_at : List Op → ℕ → Op
op_at ops n = slice_index_or ops n True

abbrev pub row_of : List Op → Key → Row
row_of ops k = record { op = op_at ops k.op; kids = k.kids }

abbrev pub rows_of : List Op → List (Key × Facts) → List Row
rows_of ops nodes = map (λ n. row_of ops n.0) nodes

-- what the ids stand for
abbrev pub trees_of : List Op → List (Key × Facts) → List Tree
trees_of ops nodes = trees_of_rows (rows_of ops nodes)

-- each node has a known operator that fits its kids, which stand before it
pub record AreSoundNodes (ops : List Op) (nodes : List (Key × Facts)) : Type 0 where
  pub rows : AreSoundRows (rows_of ops nodes)
  pub known : All (λ n. n.0.op < length ops) nodes

-- what is kept of each node is P of its tree
abbrev pub EachIs : (Tree → Facts → Type 0) → List Tree → List (Key × Facts) → Type 0
EachIs P trees nodes = (k : ℕ) (d : Key × Facts) → k < length nodes → P (slice_index_or trees k (node True no_kids)) (slice_index_or nodes k d).1
