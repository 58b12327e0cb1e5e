-- Sequents and provables within the limits.
use Rattle.std.specs.Prelude.{◌≤◌, length, All}
use Rattle.dlk_tree.specs.Trees.{Tree}
use Rattle.dlk_calculus.specs.Sequents.{Sequent}
use Rattle.dlk_calculus.specs.Provables.{Provable}
use Rattle.dlk_calculus.specs.Limits.{most_formulas, most_goals, most_leaves, IsSmall, IsShallow}

-- each formula of the sequent has this
pub record InSequent (P : Tree → Type 0) (s : Sequent) : Type 0 where
  pub ante : All P s.ante
  pub succ : All P s.succ

-- each formula of the conclusion and of the goals has this
pub record InProvable (P : Tree → Type 0) (p : Provable) : Type 0 where
  pub conclusion : InSequent P p.conclusion
  pub goals : All (InSequent P) p.goals

-- neither side is too long
pub record HasFewFormulas (s : Sequent) : Type 0 where
  pub ante : length s.ante ≤ most_formulas
  pub succ : length s.succ ≤ most_formulas

pub record IsLimitedSequent (s : Sequent) : Type 0 where
  pub small : InSequent IsSmall s
  pub shallow : InSequent IsShallow s
  pub few : HasFewFormulas s

-- all of the provable is within the limits
pub record IsLimited (p : Provable) : Type 0 where
  pub conclusion : IsLimitedSequent p.conclusion
  pub goals : All IsLimitedSequent p.goals
  pub leaves : All IsLimitedSequent p.leaves
  pub few_goals : length p.goals ≤ most_goals
  pub few_leaves : length p.leaves ≤ most_leaves
