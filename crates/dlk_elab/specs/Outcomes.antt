-- What becomes of a goal on which a strategy runs.
use Rattle.std.specs.Prelude.{ℕ, List, [], ◌∷◌}
use Rattle.dlk_calculus.specs.Sequents.{Sequent}
use Rattle.dlk_calculus.specs.Provables.{Provable}
use Rattle.dlk_calculus.specs.Steps.{Step}
use Rattle.dlk_elab.specs.declared.fault.FailWhy.{FailWhy}

-- how many runs of atoms, and of `derive`, there may be, those that fail included
abbrev pub most_runs : ℕ
most_runs = 16000

-- how many steps an atom makes at most
abbrev pub most_steps : ℕ
most_steps = 24

-- what a run has made so far
pub record Progress : Type 0 where
  -- the steps, and the rows that they give, of which the last is the main fact
  pub steps : List Step
  pub rows : List Provable
  -- how many runs of atoms, and of `derive`, there were
  pub used : ℕ

-- what becomes of a goal
pub data Outcome : Type 0 where
  -- this is made, and so many goals stand in the goal's place
  Done : Progress → ℕ → Outcome
  -- at a byte of the strategy's text, why, and how many runs of atoms, and of `derive`, there were
  Fails : ℕ → FailWhy → ℕ → Outcome
  -- at the byte of the atom, or of `derive`, whose run would be one too many
  Budget : ℕ → Outcome

-- the goals of the main fact, which is the last row
abbrev pub main_goals : List Provable → List Sequent
main_goals [] = []
main_goals (p ∷ []) = p.goals
main_goals (p ∷ (q ∷ rows)) = main_goals (q ∷ rows)
