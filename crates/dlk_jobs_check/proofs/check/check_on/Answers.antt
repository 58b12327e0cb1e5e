use Rattle.std.proofs.lemmas.Result.{err_from_is_err_and}
use Rattle.dlk_kernel.specs.Kernel.{facts}
use Rattle.dlk_replies.specs.Shown.{reply_of}
use Rattle.dlk_replies.proofs.Ends.{ends_weaker}
use Rattle.dlk_jobs_check.specs.Terms.{RefusesTerm}
use Rattle.dlk_jobs_check.specs.Checks.{Checks, refuses}
use Rattle.dlk_jobs_check.proofs.Judging.{shown_answer}
use Rattle.dlk_jobs_check.proofs.check.check_on.Goals as goal

pub returns-clause-reply : goal.returns-clause-reply
returns-clause-reply g c =
    shown_answer _ c.args.showing c.args.model.now c.args.term.now (facts g.S.Store.trees c.take_term.new.kernel) c.in_ok-taken.taken _ _
    c.in_ok-taken.ensures.taken (reply_of c.in_ok-reply.reply) c.in_ok-reply.ensures

pub returns-in_err-taken-clause-ended : goal.returns-in_err-taken-clause-ended
returns-in_err-taken-clause-ended g c =
    let model = c.args.model.now in
    let term = c.args.term.now in
    let p = err_from_is_err_and c.from_residual.result c.from_residual.ensures.1 in
    rw (p.1, p.2) (ends_weaker (RefusesTerm model term) (Checks c.args.showing model term) refuses _ c.in_err-taken.ensures.refused)
