use Rattle.std.proofs.Common.{◌≡◌, ◌∙◌, ap, codes, Err}
use Rattle.std.proofs.lemmas.Result.{IfOk-weaker}
use Rattle.dlk_store.specs.Stores.{tree}
use Rattle.dlk_sequent.specs.Substitutions.{pairs_at}
use Rattle.dlk_replies.specs.Replies.{refusal}
use Rattle.dlk_replies.specs.Shown.{reply_of}
use Rattle.dlk_replies.proofs.Ends.{ends_so}
use Rattle.dlk_jobs_text.specs.Refused.{RefusesUse}
use Rattle.dlk_jobs_text.proofs.subst.result_of.Goals as goal

pub returns-in-Err-NotAdmissible-clause-refused : goal.returns-in-Err-NotAdmissible-clause-refused
returns-in-Err-NotAdmissible-clause-refused g c =
    let trees = g.S.Store.trees c.args.store.now in
    let pairs = pairs_at trees c.args.sigma.now.pairs in
    let e = tree trees c.args.expression in
    let none = c.apply.ensures.none (c.in-Err-NotAdmissible.is ∙ ap Err c.in-Err-NotAdmissible.field-0-is) in
    ends_so (RefusesUse pairs e) c.refused.result c.end_by.result c.end_by.ensures
    (IfOk-weaker c.refused.result (λ r. reply_of r ≡ refusal (codes "not-admissible")) (λ r. RefusesUse pairs e (reply_of r)) (λ r is. (none, is))
    c.refused.ensures)
