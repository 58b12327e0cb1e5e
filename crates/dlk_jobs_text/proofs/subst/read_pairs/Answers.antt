use Rattle.std.proofs.Common.{refl}
use Rattle.dlk_grammar.specs.Texts.{PairsTextFault}
use Rattle.dlk_replies.specs.declared.form.Role.TheVariants.{Substitution}
use Rattle.dlk_replies.proofs.Ends.{text_ends}
use Rattle.dlk_jobs_text.specs.Refused.{RefusesPairs}
use Rattle.dlk_jobs_text.proofs.subst.read_pairs.Goals as goal

pub returns-in-Err-clause-refused : goal.returns-in-Err-clause-refused
returns-in-Err-clause-refused g c =
    let substitution = c.args.substitution.now in
    text_ends Substitution (PairsTextFault substitution) (RefusesPairs substitution) (λ why fault. (why, fault, refl)) c.in-Err.fault c.in-Err.ensures.fault
    c.refuse_text.result c.refuse_text.ensures c.end_by.result c.end_by.ensures
