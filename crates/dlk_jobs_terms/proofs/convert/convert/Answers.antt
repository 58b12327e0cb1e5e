use Rattle.dlk_replies.proofs.Ends.{answers_so}
use Rattle.dlk_jobs_terms.specs.Converts.{Converts}
use Rattle.dlk_jobs_terms.proofs.convert.convert.Goals as goal

pub returns : goal.returns
returns g c =
    answers_so (Converts c.args.term.now) c.convert_on.result c.answer_of.result c.answer_of.ensures c.convert_on.ensures.reply c.convert_on.ensures.ended
