-- The steps of a run are as many as its rows, of which the last shows the formula.
use Rattle.std.proofs.Common.{◌≡◌, ◌∙◌, ◌≤◌, ℕ, length, ap}
use Rattle.dlk_tree.specs.Trees.{Tree}
use Rattle.dlk_calculus.specs.Places.{At}
use Rattle.dlk_calculus.specs.Provables.{Provable}
use Rattle.dlk_calculus.proofs.PlaceLaws.{at_one}
use Rattle.dlk_tacsyn.specs.Tactics.{Tactic}
use Rattle.dlk_strategy.specs.Runs.{Progress, Done, RunsModel}
use Rattle.dlk_jobs_check.specs.Terms.{proves}
use Rattle.dlk_jobs_record.proofs.TakenRows.{taken_count}
use Rattle.dlk_jobs_prove.proofs.StrategyLaws.{RunsTaken, RunsShow}
use Rattle.dlk_elab.proofs.MainGoals.{some_items}

pub run_count : RunsTaken → (strategy : Tactic) (formula : Tree) (made : Progress) (left : ℕ) → RunsModel strategy formula (Done made left) →
    length made.steps ≡ length made.rows
run_count runs_taken strategy formula made left r = taken_count made.steps made.rows (runs_taken strategy formula made left r)

pub some_rows : RunsShow → (strategy : Tactic) (formula : Tree) (made : Progress) (left : ℕ) → RunsModel strategy formula (Done made left) →
    1 ≤ length made.rows
some_rows runs_show strategy formula made left r = let last = runs_show strategy formula made left r in some_items made.rows last.0 last.1

-- the last row shows the formula
pub run_shows : RunsShow → (strategy : Tactic) (formula : Tree) (made : Progress) (left : ℕ) → RunsModel strategy formula (Done made left) →
    (p : Provable) → At made.rows (length made.rows) p → p.conclusion ≡ proves formula
run_shows runs_show strategy formula made left r p here =
    let last = runs_show strategy formula made left r in
    ap (λ (x : Provable). x.conclusion) (at_one made.rows (length made.rows) p last.0 here last.1) ∙ last.2
