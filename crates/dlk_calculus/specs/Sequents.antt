-- Sequents.
use Rattle.std.specs.Prelude.{◌≡◌, List, [], ◌∷◌, All, false}
use Rattle.dlk_tree.specs.Trees.{Tree, sort, WellMade}
use Rattle.dlk_tree.specs.Occurs.{has_dots, has_hole}
use Rattle.dlk_tree.specs.declared.op.Sort.TheVariants.{Formula}

-- formulas on the left, and formulas on the right
pub record Sequent : Type 0 where
  pub ante : List Tree
  pub succ : List Tree

-- these formulas on the left, and those on the right
infix 4 ◌==>◌
abbrev pub ◌==>◌ : List Tree → List Tree → Sequent
A ==> S = record { ante = A; succ = S }

-- f alone on the right
abbrev pub alone_right : Tree → Sequent
alone_right f = record { ante = []; succ = f ∷ [] }

-- a tree that may stand in a sequent: a well-made formula without argument dots and without `_`
pub record IsFormula (t : Tree) : Type 0 where
  pub well_made : WellMade t
  pub sort_is : sort t ≡ Formula
  pub no_dot : has_dots t ≡ false
  pub no_hole : has_hole t ≡ false

pub record IsSequent (s : Sequent) : Type 0 where
  pub ante : All IsFormula s.ante
  pub succ : All IsFormula s.succ
