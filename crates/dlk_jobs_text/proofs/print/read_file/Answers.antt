use Rattle.std.proofs.Common.{refl}
use Rattle.dlk_grammar.specs.declared.token.Form.TheVariants.{Expression}
use Rattle.dlk_grammar.specs.Texts.{TreeTextFault}
use Rattle.dlk_replies.specs.declared.form.Role.TheVariants.{File}
use Rattle.dlk_replies.proofs.Ends.{text_ends}
use Rattle.dlk_jobs_text.specs.Refused.{RefusesFile}
use Rattle.dlk_jobs_text.proofs.print.read_file.Goals as goal

pub returns-in-Err-clause-refused : goal.returns-in-Err-clause-refused
returns-in-Err-clause-refused g c =
    let file = c.args.file.now in
    let dots = c.args.dots in
    text_ends File (TreeTextFault Expression dots file) (RefusesFile dots file) (λ why fault. (why, fault, refl)) c.in-Err.fault c.in-Err.ensures.fault
    c.refuse_text.result c.refuse_text.ensures c.end_by.result c.end_by.ensures
