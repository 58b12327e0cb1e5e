use Rattle.dlk_replies.proofs.Ends.{answers_so}
use Rattle.dlk_jobs_text.specs.Substitutes.{Substitutes}
use Rattle.dlk_jobs_text.proofs.subst.subst.Goals as goal

pub returns-clause-reply : goal.returns-clause-reply
returns-clause-reply g c =
    answers_so (Substitutes c.args.file.now c.args.substitution.now) c.subst_on.result c.answer_of.result c.answer_of.ensures c.subst_on.ensures.reply
    c.subst_on.ensures.ended
