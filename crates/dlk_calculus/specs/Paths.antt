-- Paths into a tree: the kids that lead to a subtree, counted from 0.
use Rattle.std.specs.Prelude.{◌≡◌, ◌≢◌, ℕ, ◌-◌, ◌==◌, List, [], ◌∷◌, ◌++◌, Option, Some, None, if◌then◌else◌}
use Rattle.dlk_tree.specs.declared.op.Sort.TheVariants.{Formula}
use Rattle.dlk_tree.specs.Trees.{Tree, node, Forest, no_kids, kid, sort}

-- the subtree at a path, if the path doesn't leave the tree
abbrev mutual
  pub subtree : Tree → List ℕ → Option Tree
  subtree e [] = Some e
  subtree (node op kids) (n ∷ path) = subtree_in kids n path

  pub subtree_in : Forest → ℕ → List ℕ → Option Tree
  subtree_in no_kids n path = None
  subtree_in (kid t rest) n path = if n == 0 then subtree t path else subtree_in rest (n - 1) path

-- the tree with another one at a path; a path that leaves the tree changes nothing
abbrev mutual
  pub put_at : Tree → List ℕ → Tree → Tree
  put_at e [] new = new
  put_at (node op kids) (n ∷ path) new = node op (put_in kids n path new)

  pub put_in : Forest → ℕ → List ℕ → Tree → Forest
  put_in no_kids n path new = no_kids
  put_in (kid t rest) n path new = if n == 0 then kid (put_at t path new) rest else kid t (put_in rest (n - 1) path new)

-- The smallest formula round the subtree at a path: the path leads to it first, and then on; on the way on there is no formula.
pub record IsInnermost (e : Tree) (path outer inner : List ℕ) (formula : Tree) : Type 0 where
  pub parts : path ≡ outer ++ inner
  pub stands : subtree e outer ≡ Some formula
  pub is_formula : sort formula ≡ Formula
  pub smallest : (n : ℕ) (front back : List ℕ) (t : Tree) → inner ≡ (n ∷ front) ++ back → subtree formula (n ∷ front) ≡ Some t → sort t ≢ Formula
