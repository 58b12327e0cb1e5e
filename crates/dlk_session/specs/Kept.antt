-- What each state of a session keeps.
use Rattle.std.specs.Prelude.{◌≤◌, ◌+◌, ◌*◌, ℕ, List, [], ◌∷◌, ◌++◌, length}
use Rattle.dlk_kernel.specs.Taken.{Takes}
use Rattle.dlk_elab.specs.Outcomes.{most_runs, most_steps}
use Rattle.dlk_session.specs.Sessions.{State}

-- counts of steps, from 1 to so many, of which none falls
pub data AreEarlier : List ℕ → ℕ → Type 0 where
  none : {most : ℕ} → AreEarlier [] most
  more : {before : List ℕ} {count most : ℕ} → AreEarlier before count → 1 ≤ count → count ≤ most → AreEarlier (before ++ count ∷ []) most

-- the steps are taken in turn and give the rows, of which there are some, each run that was counted has made few, and those that can be undone began
-- at one of them
pub record IsKept (now : State) : Type 0 where
  pub taken : Takes [] now.steps now.rows
  pub some : 1 ≤ length now.steps
  pub few : length now.steps ≤ 1 + most_steps * now.used
  pub used : now.used ≤ most_runs
  pub earlier : AreEarlier now.earlier (length now.steps)
