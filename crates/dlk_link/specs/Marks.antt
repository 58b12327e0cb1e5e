-- Rows that are needed, as marks.
use Rattle.std.specs.Prelude.{◌≡◌, ◌↔◌, ◌⊎◌, ◌<◌, ◌≤◌, ℕ, Bool, true, List, [], length}
use Rattle.std.specs.List.{Contains}
use Rattle.dlk_calculus.specs.Limits.{most_rows}
use Rattle.dlk_calculus.specs.Places.{At}
use Rattle.dlk_calculus.specs.Steps.{Step as TreeStep}
use Rattle.dlk_rules.specs.declared.step.Step.{Step}
use Rattle.dlk_rules.specs.Facts.{facts_of}
use Rattle.dlk_rules.specs.Steps.{step_at}
use Rattle.dlk_link.specs.Trimmed.{IsNeeded}

-- each step names rows before its own
abbrev pub NameEarlier : List Step → Type 0
NameEarlier steps = (row : ℕ) (step : Step) → At steps row step → (fact : ℕ) → Contains (facts_of (step_at [] step)) fact → (1 ≤ fact) × (fact < row)

-- the step names no row past the most that there may be
abbrev pub NamesFew : Step → Type 0
NamesFew step = (fact : ℕ) → Contains (facts_of (step_at [] step)) fact → fact ≤ most_rows

-- a row is marked exactly where it is needed
pub record AreMarks (term : List TreeStep) (marks : List Bool) : Type 0 where
  pub count : length marks ≡ length term
  pub marked : (row : ℕ) → At marks row true ↔ IsNeeded term row

-- the rows of these facts are marked, and those that were
pub record Marks (old new : List Bool) (facts : List ℕ) : Type 0 where
  pub count : length new ≡ length old
  pub only : (row : ℕ) → At new row true → At old row true ⊎ Contains facts row
  pub kept : (row : ℕ) → At old row true → At new row true
  pub all : (row : ℕ) → Contains facts row → At new row true
