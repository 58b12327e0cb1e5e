use Rattle.std.proofs.Common.{[], length, map, ap, sym, subst, codes, arith}
use Rattle.std.proofs.lemmas.List.{length-map}
use Rattle.std.proofs.lemmas.Result.{IfOk-weaker, IfErr-weaker, err_from_is_err_and}
use Rattle.dlk_kernel.specs.Kernel.{facts}
use Rattle.dlk_kernel.specs.Taken.{Takes}
use Rattle.dlk_replies.specs.Ended.{EndsIn}
use Rattle.dlk_replies.specs.Shown.{reply_of}
use Rattle.dlk_replies.proofs.Ends.{ends_weaker}
use Rattle.dlk_rules.specs.Steps.{step_at}
use Rattle.dlk_jobs_check.specs.Judged.{RefusesLine}
use Rattle.dlk_jobs_record.proofs.TakenRows.{some_steps}
use Rattle.dlk_jobs_terms.specs.Converts.{Converts}
use Rattle.dlk_jobs_terms.specs.Made.{RecordsLast}
use Rattle.dlk_jobs_terms.proofs.EndLaws.{last_is, replay_takes, replay_last}
use Rattle.dlk_jobs_terms.proofs.JobAnswers.{line_answer, convert_answer}
use Rattle.dlk_jobs_terms.proofs.convert.convert_on.Goals as goal

pub record_taken-requires-clause-some : goal.record_taken-requires-clause-some
record_taken-requires-clause-some g c =
    let trees = g.S.Store.trees c.replayed.new.kernel.store in
    let rows = facts g.S.Store.trees c.replayed.new.kernel in
    let steps = c.in_ok-outcome.outcome.steps.items in
    let kept = c.in_ok-outcome.ensures.kept in
    let term = c.args.term.now in
    let made = map (step_at trees) steps in
    let takes = replay_takes c.accepted_says_steps.ensures.taken term made rows kept.last kept.replays in
    let some = some_steps made rows kept.last takes (last_is rows kept.last (replay_last term made rows kept.last kept.replays)) in
    omega (arith, some, length-map steps (step_at trees), ap length c.deref.ensures.value)

pub record_taken-requires-clause-takes : goal.record_taken-requires-clause-takes
record_taken-requires-clause-takes g c =
    let trees = g.S.Store.trees c.replayed.new.kernel.store in
    let rows = facts g.S.Store.trees c.replayed.new.kernel in
    let kept = c.in_ok-outcome.ensures.kept in
    subst (λ l. Takes [] (map (step_at trees) l) rows) (sym c.deref.ensures.value)
    (replay_takes c.accepted_says_steps.ensures.taken c.args.term.now (map (step_at trees) c.in_ok-outcome.outcome.steps.items) rows kept.last kept.replays)

pub returns-clause-reply : goal.returns-clause-reply
returns-clause-reply g c =
    let trees = g.S.Store.trees c.replayed.new.kernel.store in
    let rows = facts g.S.Store.trees c.replayed.new.kernel in
    let steps = c.in_ok-outcome.outcome.steps.items in
    let kept = c.in_ok-outcome.ensures.kept in
    let term = c.args.term.now in
    let made = map (step_at trees) steps in
    IfOk-weaker c.record_taken.result (λ r. RecordsLast made (reply_of r)) (λ r. Converts term (reply_of r))
    (λ r says. convert_answer c.accepted_says_steps.ensures.taken term made rows kept.last kept.replays (reply_of r) says)
    (rw c.deref.ensures.value at c.record_taken.ensures.reply)

pub returns-clause-ended : goal.returns-clause-ended
returns-clause-ended g c =
    let trees = g.S.Store.trees c.replayed.new.kernel.store in
    let rows = facts g.S.Store.trees c.replayed.new.kernel in
    let steps = c.in_ok-outcome.outcome.steps.items in
    let kept = c.in_ok-outcome.ensures.kept in
    let term = c.args.term.now in
    let made = map (step_at trees) steps in
    IfErr-weaker c.record_taken.result (EndsIn (RecordsLast made)) (EndsIn (Converts term))
    (ends_weaker (RecordsLast made) (Converts term)
    (λ reply says. convert_answer c.accepted_says_steps.ensures.taken term made rows kept.last kept.replays reply says))
    (rw c.deref.ensures.value at c.record_taken.ensures.ended)

pub returns-in_err-outcome-clause-ended : goal.returns-in_err-outcome-clause-ended
returns-in_err-outcome-clause-ended g c =
    let term = c.args.term.now in
    let p = err_from_is_err_and c.from_residual.result c.from_residual.ensures.1 in
    rw (p.1, p.2) (ends_weaker (RefusesLine (codes "line") term) (Converts term) (line_answer term) _ c.in_err-outcome.ensures.refused)
