-- The goals of the last row.
use Rattle.std.proofs.Common.{◌≡◌, ℕ, ◌≤◌, List, [], ◌∷◌, length, ◌∙◌, arith}
use Rattle.std.specs.List.{All}
use Rattle.std.proofs.lemmas.List.Elements.{All-head, All-tail}
use Rattle.std.proofs.Common.{◌-◌}
use Rattle.dlk_calculus.specs.Places.{At}
use Rattle.dlk_calculus.specs.Provables.{Provable}
use Rattle.dlk_calculus.specs.Limited.{IsLimited, IsLimitedSequent, HasFewFormulas}
use Rattle.dlk_calculus.specs.Sequents.{Sequent}
use Rattle.dlk_calculus.proofs.PlaceLaws.{At_All, At_place}
use Rattle.dlk_sequent.specs.declared.sequent.Sequent.{Sequent as Shown}
use Rattle.std.proofs.Common.{map}
use Rattle.dlk_strategy.specs.Runs.{main_goals}
use Rattle.dlk_elab.proofs.MainGoals.{last_goals, some_last}

no_item : (goal : ℕ) (s : Sequent) → At [] goal s → ⊥
no_item goal s h = let there = At_place [] goal s h in absurd (omega (arith, there.0, there.1))

-- the goals that are shown are those of the last row
pub shown_goals : (rows : List Provable) (shown : List Shown) (f : Shown → Sequent) (fact : ℕ) → fact ≡ length rows → 1 ≤ length rows →
    ((p : Provable) → At rows fact p → p.goals ≡ map f shown) → main_goals rows ≡ map f shown
shown_goals rows shown f fact is some shows =
    let found = some_last rows some in
    let stands : At rows fact found.0 = rw is found.1 in
    last_goals rows found.0 found.1 ∙ shows found.0 stands

-- each of them within the limits
pub few_formulas : (rows : List Provable) → All IsLimited rows → (goal : ℕ) (s : Sequent) → At (main_goals rows) goal s → HasFewFormulas s
few_formulas [] h goal s stands = absurd (no_item goal s stands)
few_formulas (q ∷ []) h goal s stands = (At_All IsLimitedSequent q.goals goal s (All-head IsLimited q [] h).goals stands).few
few_formulas (q ∷ (r ∷ rows)) h goal s stands = few_formulas (r ∷ rows) (All-tail IsLimited q (r ∷ rows) h) goal s stands
