-- Where an axiom may be used.
use Rattle.std.specs.Prelude.{◌≡◌, List, IsTrue, Some}
use Rattle.dlk_tree.specs.Trees.{Tree}
use Rattle.dlk_calculus.specs.Pairs.{Extra}
use Rattle.dlk_calculus.specs.Paths.{subtree}
use Rattle.dlk_calculus.specs.Sequents.{IsSequent}
use Rattle.dlk_calculus.specs.Provables.{Provable}
use Rattle.dlk_calculus.specs.Steps.{IsGoal}
use Rattle.dlk_match.specs.Matching.{Match}
use Rattle.dlk_uses.specs.Uses.{Use, Spot, key, may_stand, formula_at}

-- The use applies to a goal: formulas stand in it, e at the place, and in e, at the path, what the axiom's key matches with these names and
-- replacements.
pub record Applies (rows : List Provable) (spot : Spot) (used : Use) (e : Tree) (extra : Extra) : Type 0 where
  pub goal : IsGoal rows spot.fact spot.goal spot.s
  pub formulas : IsSequent spot.s
  pub stands : formula_at spot.s used.place ≡ Some e
  pub may : IsTrue (may_stand used.its_axiom.form used.direction used.place used.path)
  pub there : Tree
  pub inside : subtree e used.path ≡ Some there
  pub matches : Match (key used.its_axiom.form used.direction used.place used.its_axiom.formula) used.its_axiom.own_names there used.given extra
