-- A proof without what its last row doesn't need, and with each step once.
use Rattle.std.specs.Prelude.{ℕ, ◌+◌, List, [], ◌∷◌, ◌++◌, length, Option, Some, None}
use Rattle.std.specs.List.{Contains}
use Rattle.dlk_calculus.specs.Places.{at, At}
use Rattle.dlk_calculus.specs.Steps.{Step}
use Rattle.dlk_rules.specs.Facts.{facts_of, renumbered}

-- the step names the fact
abbrev pub Names : Step → ℕ → Type 0
Names step fact = Contains (facts_of step) fact

-- the last row needs the row of this number: it is the last, or a step whose row is needed names it
pub data IsNeeded (term : List Step) : ℕ → Type 0 where
  the_last : IsNeeded term (length term)
  is_named : {row fact : ℕ} {step : Step} → IsNeeded term row → At term row step → Names step fact → IsNeeded term fact

-- the new number of a row, by those of the rows so far; a row that has none has 0
abbrev pub number_or_none : Option ℕ → ℕ
number_or_none None = 0
number_or_none (Some n) = n

abbrev pub new_number : List ℕ → ℕ → ℕ
new_number numbers row = number_or_none (at numbers row)

-- the step with the new numbers of its facts
abbrev pub moved : List ℕ → Step → Step
moved numbers step = renumbered (new_number numbers) step

-- Trims term read kept numbers: of the first steps of the term, which are `read`, these are kept, and each row of them has its new number.
pub data Trims (term : List Step) : (read kept : List Step) (numbers : List ℕ) → Type 0 where
  nothing_read : Trims term [] [] []
  not_needed : {read kept : List Step} {numbers : List ℕ} (step : Step) →
      Trims term read kept numbers → ¬ IsNeeded term (length read + 1) → Trims term (read ++ step ∷ []) kept (numbers ++ 0 ∷ [])
  -- it equals an earlier one that is kept
  kept_before : {read kept : List Step} {numbers : List ℕ} (step : Step) (n : ℕ) →
      Trims term read kept numbers → IsNeeded term (length read + 1) → At kept n (moved numbers step) →
      Trims term (read ++ step ∷ []) kept (numbers ++ n ∷ [])
  is_kept : {read kept : List Step} {numbers : List ℕ} (step : Step) →
      Trims term read kept numbers → IsNeeded term (length read + 1) → ¬ Contains kept (moved numbers step) →
      Trims term (read ++ step ∷ []) (kept ++ moved numbers step ∷ []) (numbers ++ (length kept + 1) ∷ [])

-- what is kept of the whole term
abbrev pub Trimmed : List Step → List Step → Type 0
Trimmed term kept = (numbers : List ℕ) × Trims term term kept numbers
