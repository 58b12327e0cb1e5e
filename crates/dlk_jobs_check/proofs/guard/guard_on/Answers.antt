use Rattle.std.proofs.lemmas.Result.{err_from_is_err_and}
use Rattle.dlk_kernel.specs.Kernel.{facts}
use Rattle.dlk_replies.specs.Shown.{reply_of}
use Rattle.dlk_replies.proofs.Ends.{ends_weaker}
use Rattle.dlk_jobs_check.specs.Terms.{RefusesTerm}
use Rattle.dlk_jobs_check.specs.Guards.{Guards, refuses}
use Rattle.dlk_jobs_check.proofs.GuardAnswers.{guards_answer}
use Rattle.dlk_jobs_check.proofs.guard.guard_on.Goals as goal

pub returns-clause-reply : goal.returns-clause-reply
returns-clause-reply g c =
    guards_answer c.verdict_is_first.ensures.none c.verdict_is_first.ensures.some c.args.model.now c.args.term.now
    (facts g.S.Store.trees c.take_term.new.kernel)
    c.in_ok-taken.taken c.new-guard.result c.take_term.new.watcher c.new-guard.ensures c.in_ok-taken.ensures.taken (reply_of c.in_ok-shown.shown)
    (reply_of c.in_ok-reply.reply)
    c.in_ok-line.line.items c.verdict.result c.in_ok-shown.ensures c.verdict.ensures c.in_ok-line.ensures c.in_ok-reply.ensures

pub returns-in_err-taken-clause-ended : goal.returns-in_err-taken-clause-ended
returns-in_err-taken-clause-ended g c =
    let model = c.args.model.now in
    let term = c.args.term.now in
    let p = err_from_is_err_and c.from_residual.result c.from_residual.ensures.1 in
    rw (p.1, p.2) (ends_weaker (RefusesTerm model term) (Guards model term) refuses _ c.in_err-taken.ensures.refused)
