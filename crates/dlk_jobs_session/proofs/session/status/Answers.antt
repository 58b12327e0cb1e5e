use Rattle.std.proofs.Common.{◌≤◌, length, sym, ◌∙◌, arith}
use Rattle.std.proofs.lemmas.Bool.{eqb-true, eqb-false}
use Rattle.std.proofs.lemmas.List.{length-map}
use Rattle.dlk_sequent.specs.Sequents.{sequent_at}
use Rattle.dlk_kernel.specs.Kernel.{facts, provable_at}
use Rattle.dlk_elab.specs.Outcomes.{main_goals}
use Rattle.dlk_elab.proofs.FewSteps.{takes_length}
use Rattle.dlk_session.proofs.MainGoals.{shown_count}
use Rattle.dlk_jobs_session.proofs.Ended.{closed_now, open_now}
use Rattle.dlk_jobs_session.proofs.session.status.Goals as goal

pub returns-then-is_empty : goal.returns-then-is_empty
returns-then-is_empty g c =
    let trees = g.S.Store.trees in
    let k = c.args.session.now.kernel in
    let count = length-map k.rows (provable_at (trees k.store)) in
    let some : 1 ≤ length (facts trees k) = omega (arith, takes_length _ _ _ c.kernel-kernel.ensures.kept.taken, c.kernel-kernel.ensures.kept.some) in
    let rows = rw c.kernel-kernel.ensures.kernel at c.rows.ensures.count in
    let shows = rw c.kernel-kernel.ensures.kernel at c.goals.ensures.goals in
    let n = shown_count (facts trees k) c.goals.result.now (sequent_at (trees k.store)) c.rows.result (rows ∙ sym count) some shows in
    closed_now (main_goals (facts trees k)) (length c.goals.result.now) n (eqb-true _ 0 (sym c.if-is_empty.ensures))

pub returns-else-is_empty : goal.returns-else-is_empty
returns-else-is_empty g c =
    let trees = g.S.Store.trees in
    let k = c.args.session.now.kernel in
    let count = length-map k.rows (provable_at (trees k.store)) in
    let some : 1 ≤ length (facts trees k) = omega (arith, takes_length _ _ _ c.kernel-kernel.ensures.kept.taken, c.kernel-kernel.ensures.kept.some) in
    let rows = rw c.kernel-kernel.ensures.kernel at c.rows.ensures.count in
    let shows = rw c.kernel-kernel.ensures.kernel at c.goals.ensures.goals in
    let n = shown_count (facts trees k) c.goals.result.now (sequent_at (trees k.store)) c.rows.result (rows ∙ sym count) some shows in
    open_now (main_goals (facts trees k)) (length c.goals.result.now) n (eqb-false _ 0 (sym c.if-is_empty.ensures))
