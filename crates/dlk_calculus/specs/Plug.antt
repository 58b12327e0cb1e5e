-- Arguments in place of argument dots, and a formula in place of `_`.
use Rattle.std.specs.Prelude.{◌≡◌, ℕ, List, Bool, if◌then◌else◌, IsTrue, Some, slice_get}
use Rattle.dlk_tree.specs.declared.op.Var.{Var}
use Rattle.dlk_tree.specs.declared.op.Op.{Op}
use Rattle.dlk_tree.specs.declared.op.Op.TheVariants.{Dot}
use Rattle.dlk_tree.specs.Trees.{Tree, node, Forest, no_kids, kid}
use Rattle.dlk_tree.specs.Statics.{free}
use Rattle.dlk_tree.specs.Occurs.{any_has, is_dot, is_hole}
use Rattle.dlk_calculus.specs.Captures.{AreApart, Stays}

-- no variable of the set is free in an argument whose dot stands in these trees
pub record IsClear (args : List Tree) (set : Var → Bool) (trees : Forest) : Type 0 where
  pub clear : (n : ℕ) (a : Tree) → slice_get args n ≡ Some a → IsTrue (any_has (is_dot n) trees) → AreApart set (free a)

-- the operator over old kids gives t, where these give the new ones: a dot its argument, any other itself if no argument is captured
abbrev pub PlugAt : List Tree → Op → Forest → Forest → Tree → Type 0
PlugAt args (Dot n) old new t = slice_get args n ≡ Some t
PlugAt args op old new t = Stays (IsClear args) op old new t

abbrev mutual
  -- r with the arguments in place of its dots is t, and no variable of an argument is captured
  pub Plug : List Tree → Tree → Tree → Type 0
  Plug args (node op kids) t = (new : Forest) × PlugAll args kids new × PlugAt args op kids new t

  pub PlugAll : List Tree → Forest → Forest → Type 0
  PlugAll args no_kids no_kids = Unit {0}
  PlugAll args no_kids (kid t ts) = ⊥
  PlugAll args (kid r rs) no_kids = ⊥
  PlugAll args (kid r rs) (kid t ts) = Plug args r t × PlugAll args rs ts

-- the tree with f in place of each `_`, which may capture what is free in f
abbrev mutual
  pub filled : Tree → Tree → Tree
  filled f (node op kids) = if is_hole op then f else node op (filled_all f kids)

  pub filled_all : Tree → Forest → Forest
  filled_all f no_kids = no_kids
  filled_all f (kid t rest) = kid (filled f t) (filled_all f rest)
