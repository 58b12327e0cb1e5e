-- What is kept of a tree.
use Rattle.std.specs.Prelude.{◌≡◌, ℕ, ◌-◌, ◌^◌, ◌==◌, min}
use Rattle.std.specs.Int.{bit_at}
use Rattle.dlk_tree.specs.declared.op.Op.{Op}
use Rattle.dlk_tree.specs.declared.op.Op.TheVariants.{Dot}
use Rattle.dlk_tree.specs.Trees.{Tree, size, depth}
use Rattle.dlk_tree.specs.Occurs.{occurs, has_dot, has_hole}
use Rattle.dlk_tree.specs.Statics.{sets}
use Rattle.dlk_shared.specs.SetTables.{SetTable, MeanSets}
use Rattle.dlk_shared.specs.Signs.{SignTable, Signs}
use Rattle.dlk_shared.specs.declared.node.Facts.{Facts}

abbrev pub capped : ℕ → ℕ
capped n = min n (2 ^ 32 - 1)

-- the bit of an operator that is an argument dot
abbrev pub dot_bit : Op → ℕ
dot_bit (Dot n) = 2 ^ n
dot_bit _ = 0

-- a bit for each argument dot that stands in the tree
abbrev pub AreDotsOf : Tree → ℕ → Type 0
AreDotsOf t dots = (n : ℕ) → (bit_at dots n == 1) ≡ has_dot n t

pub record IsFactsOf (table : SetTable) (signs : SignTable) (t : Tree) (f : Facts) : Type 0 where
  pub size_is : f.size ≡ capped (size t)
  pub depth_is : f.depth ≡ capped (depth t)
  pub dots_are : AreDotsOf t f.dots
  pub hole_is : f.hole ≡ has_hole t
  pub sets_are : MeanSets table f.sets (sets t)
  pub sign_is : Signs signs f.sign (λ s. occurs s t)
