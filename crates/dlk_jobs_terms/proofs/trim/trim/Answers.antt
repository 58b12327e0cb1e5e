use Rattle.dlk_replies.proofs.Ends.{answers_so}
use Rattle.dlk_jobs_terms.specs.Trims.{Trims}
use Rattle.dlk_jobs_terms.proofs.trim.trim.Goals as goal

pub returns : goal.returns
returns g c =
    answers_so (Trims c.args.model.now c.args.term.now) c.trim_on.result c.answer_of.result c.answer_of.ensures c.trim_on.ensures.reply c.trim_on.ensures.ended
