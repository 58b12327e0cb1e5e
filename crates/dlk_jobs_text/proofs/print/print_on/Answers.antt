use Rattle.std.proofs.lemmas.Result.{err_from_is_err_and}
use Rattle.dlk_store.specs.Stores.{tree}
use Rattle.dlk_grammar.specs.declared.token.Dots.TheVariants.{Allowed}
use Rattle.dlk_replies.specs.Shown.{reply_of}
use Rattle.dlk_replies.proofs.Ends.{ends_weaker}
use Rattle.dlk_jobs_text.specs.Prints.{Prints}
use Rattle.dlk_jobs_text.specs.Refused.{RefusesFile}
use Rattle.dlk_jobs_text.proofs.PrintAnswers.{print_answer, print_refused}
use Rattle.dlk_jobs_text.proofs.print.print_on.Goals as goal

pub returns-in_err-expression-clause-ended : goal.returns-in_err-expression-clause-ended
returns-in_err-expression-clause-ended g c =
    let file = c.args.file.now in
    let p = err_from_is_err_and c.from_residual.result c.from_residual.ensures.1 in
    rw (p.1, p.2) (ends_weaker (RefusesFile Allowed file) (Prints file) (print_refused file) _ c.in_err-expression.ensures.refused)

pub returns-clause-reply : goal.returns-clause-reply
returns-clause-reply g c =
    let read = c.in_ok-expression.ensures.found in
    let t = tree (g.S.Store.trees c.read_file.new.store) c.in_ok-expression.expression in
    print_answer c.args.file.now read.0 t (reply_of c.in_ok-reply.reply) read.1 read.2.tree_is c.in_ok-reply.ensures
