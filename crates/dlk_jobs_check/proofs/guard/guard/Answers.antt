use Rattle.dlk_replies.proofs.Ends.{answers_so}
use Rattle.dlk_jobs_check.specs.Guards.{Guards}
use Rattle.dlk_jobs_check.proofs.guard.guard.Goals as goal

pub returns : goal.returns
returns g c =
    answers_so (Guards c.args.model.now c.args.term.now) c.guard_on.result c.answer_of.result c.answer_of.ensures c.guard_on.ensures.reply
    c.guard_on.ensures.ended
