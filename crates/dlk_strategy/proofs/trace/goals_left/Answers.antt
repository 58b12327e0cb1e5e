use Rattle.std.proofs.Common.{◌≡◌, ℕ, ◌≤◌, List, length, map, ap, sym, ◌∙◌, arith}
use Rattle.std.specs.List.{All}
use Rattle.std.proofs.lemmas.List.{length-map}
use Rattle.dlk_calculus.specs.Limits.{most_goals}
use Rattle.dlk_calculus.specs.Limited.{IsLimited}
use Rattle.dlk_calculus.specs.Places.{At}
use Rattle.dlk_calculus.specs.Provables.{Provable}
use Rattle.dlk_calculus.specs.Sequents.{Sequent as TreeSequent}
use Rattle.dlk_sequent.specs.declared.sequent.Sequent.{Sequent}
use Rattle.dlk_sequent.specs.Sequents.{sequent_at}
use Rattle.dlk_kernel.specs.Kernel.{provable_at}
use Rattle.dlk_strategy.specs.Runs.{main_goals}
use Rattle.dlk_strategy.proofs.trace.goals_left.Goals as goal
use Rattle.dlk_elab.proofs.MainGoals.{last_goals, some_last, few_goals}

-- the goals that are shown are those of the last row
count : (rows : List Provable) (shown : List Sequent) (f : Sequent → TreeSequent) (fact : ℕ) → fact ≡ length rows → 1 ≤ length rows →
    ((p : Provable) → At rows fact p → p.goals ≡ map f shown) → length shown ≡ length (main_goals rows)
count rows shown f fact is some shows =
    let found = some_last rows some in
    let stands : At rows fact found.0 = rw is found.1 in
    sym (ap length (last_goals rows found.0 found.1 ∙ shows found.0 stands) ∙ length-map shown f)

pub returns-clause-goals : goal.returns-clause-goals
returns-clause-goals g c =
    let trees = g.S.Store.trees c.args.kernel.now.store in
    count (map (provable_at trees) c.args.kernel.now.rows) c.goals.result.now (sequent_at trees) c.rows.result
    (c.rows.ensures.count ∙ sym (length-map c.args.kernel.now.rows (provable_at trees)))
    (rw (length-map c.args.kernel.now.rows (provable_at trees)) c.requires) c.goals.ensures.goals

few : (rows : List Provable) (n : ℕ) → n ≡ length (main_goals rows) → All IsLimited rows → n ≤ most_goals
few rows n e limited = let most : length (main_goals rows) ≤ most_goals = few_goals rows limited in omega (arith, e, most)

pub returns-clause-few : goal.returns-clause-few
returns-clause-few g c =
    few (map (provable_at (g.S.Store.trees c.args.kernel.now.store)) c.args.kernel.now.rows) (length c.goals.result.now) (returns-clause-goals g c)
    c.rows.ensures.limited

pub overflow_cast-result : goal.overflow_cast-result
overflow_cast-result g c = let most : length c.goals.result.now ≤ most_goals = returns-clause-few g c in omega (arith, most)
