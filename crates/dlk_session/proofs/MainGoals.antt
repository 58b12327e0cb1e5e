-- The goals of the last row.
use Rattle.std.proofs.Common.{◌≡◌, ℕ, ◌-◌, ◌≤◌, List, length, map, sym, ap, ◌∙◌, arith}
use Rattle.std.specs.List.{All}
use Rattle.std.proofs.lemmas.List.{length-map}
use Rattle.dlk_calculus.specs.Places.{At}
use Rattle.dlk_calculus.specs.Provables.{Provable}
use Rattle.dlk_calculus.specs.Limits.{most_goals}
use Rattle.dlk_calculus.specs.Limited.{IsLimited}
use Rattle.dlk_calculus.specs.Sequents.{Sequent}
use Rattle.dlk_sequent.specs.declared.sequent.Sequent.{Sequent as Shown}
use Rattle.dlk_elab.specs.Outcomes.{main_goals}
use Rattle.dlk_elab.proofs.MainGoals.{last_goals, some_last, few_goals}

-- the goals that are shown are those of the last row
pub shown_count : (rows : List Provable) (shown : List Shown) (f : Shown → Sequent) (fact : ℕ) → fact ≡ length rows → 1 ≤ length rows →
    ((p : Provable) → At rows fact p → p.goals ≡ map f shown) → length shown ≡ length (main_goals rows)
shown_count rows shown f fact is some shows =
    let found = some_last rows some in
    let stands : At rows fact found.0 = rw is found.1 in
    sym (ap length (last_goals rows found.0 found.1 ∙ shows found.0 stands) ∙ length-map shown f)

pub few_shown : (rows : List Provable) (n : ℕ) → n ≡ length (main_goals rows) → All IsLimited rows → n ≤ most_goals
few_shown rows n e limited = let most : length (main_goals rows) ≤ most_goals = few_goals rows limited in omega (arith, e, most)
