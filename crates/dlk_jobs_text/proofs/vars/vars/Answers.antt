use Rattle.dlk_replies.proofs.Ends.{answers_so}
use Rattle.dlk_jobs_text.specs.Lists.{Lists}
use Rattle.dlk_jobs_text.proofs.vars.vars.Goals as goal

pub returns : goal.returns
returns c = answers_so (Lists c.args.file.now) c.vars_on.result c.answer_of.result c.answer_of.ensures c.vars_on.ensures.reply c.vars_on.ensures.ended
