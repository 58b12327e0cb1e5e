use Rattle.dlk_replies.proofs.Ends.{answers_so}
use Rattle.dlk_jobs_text.specs.Prints.{Prints}
use Rattle.dlk_jobs_text.proofs.print.print.Goals as goal

pub returns : goal.returns
returns g c = answers_so (Prints c.args.file.now) c.print_on.result c.answer_of.result c.answer_of.ensures c.print_on.ensures.reply c.print_on.ensures.ended
