use Rattle.dlk_replies.proofs.Ends.{answers_so}
use Rattle.dlk_jobs_check.specs.Checks.{Checks}
use Rattle.dlk_jobs_check.proofs.check.check.Goals as goal

pub returns : goal.returns
returns g c =
    answers_so (Checks c.args.showing c.args.model.now c.args.term.now) c.check_on.result c.answer_of-answer.result c.answer_of-answer.ensures
    c.check_on.ensures.reply c.check_on.ensures.ended
