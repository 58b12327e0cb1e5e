use Rattle.std.proofs.Common.{sym, subst}
use Rattle.std.proofs.lemmas.Result.{err_from_is_err_and}
use Rattle.dlk_grammar.specs.declared.token.Dots.TheVariants.{Allowed}
use Rattle.dlk_replies.proofs.Ends.{ends_weaker}
use Rattle.dlk_jobs_text.specs.Prints.{FileText}
use Rattle.dlk_jobs_text.specs.Lists.{Lists}
use Rattle.dlk_jobs_text.specs.Refused.{RefusesFile}
use Rattle.dlk_jobs_text.proofs.ListAnswers.{list_refused}
use Rattle.dlk_jobs_text.proofs.vars.vars_on.Goals as goal

pub returns-in_err-expression-clause-ended : goal.returns-in_err-expression-clause-ended
returns-in_err-expression-clause-ended g c =
    let file = c.args.file.now in
    let p = err_from_is_err_and c.from_residual.result c.from_residual.ensures.1 in
    rw (p.1, p.2) (ends_weaker (RefusesFile Allowed file) (Lists file) (list_refused file) _ c.in_err-expression.ensures.refused)

pub returns-clause-reply : goal.returns-clause-reply
returns-clause-reply g c =
    let file = c.args.file.now in
    let read = c.in_ok-expression.ensures.found in
    c.in_ok-reply.ensures file (subst (FileText file) (sym read.2.tree_is) read.1)
