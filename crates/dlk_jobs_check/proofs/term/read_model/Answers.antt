use Rattle.std.proofs.Common.{refl}
use Rattle.dlk_replies.specs.declared.form.Role.TheVariants.{Model}
use Rattle.dlk_replies.proofs.Ends.{text_ends}
use Rattle.dlk_jobs_check.specs.Terms.{ModelFault}
use Rattle.dlk_jobs_check.specs.Judged.{RefusesModel}
use Rattle.dlk_jobs_check.proofs.term.read_model.Goals as goal

pub returns-in-Err-clause-refused : goal.returns-in-Err-clause-refused
returns-in-Err-clause-refused g c =
    let model = c.args.model.now in
    text_ends Model (ModelFault model) (RefusesModel model) (λ why fault. (why, fault, refl)) c.in-Err.fault c.in-Err.ensures.fault
    c.refuse_text.result c.refuse_text.ensures c.end_by.result c.end_by.ensures
