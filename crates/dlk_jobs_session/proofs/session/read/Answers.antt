use Rattle.std.proofs.Common.{◌≡◌, sym, subst}
use Rattle.std.proofs.lemmas.Result.{IfOk-weaker, err_from_is_err_and}
use Rattle.dlk_replies.specs.Shown.{reply_of}
use Rattle.dlk_replies.proofs.Ends.{ends_weaker, ends_so}
use Rattle.dlk_jobs_check.specs.Judged.{RefusesModel}
use Rattle.dlk_jobs_session.specs.Sessions.{script_refused, Sessions, bad_model, bad_line}
use Rattle.dlk_jobs_session.proofs.session.read.Goals as goal

pub returns-in_err-formula-clause-ended : goal.returns-in_err-formula-clause-ended
returns-in_err-formula-clause-ended g c =
    let model = c.args.model.now in
    let script = c.args.script.now in
    let p = err_from_is_err_and c.from_residual.result c.from_residual.ensures.1 in
    rw (p.1, p.2) (ends_weaker (RefusesModel model) (Sessions model script) (λ reply h. subst (Sessions model script) (sym h.2) (bad_model h.0 h.1)) _
    c.in_err-formula.ensures.refused)

pub returns-in-Err-Wrong-clause-ended : goal.returns-in-Err-Wrong-clause-ended
returns-in-Err-Wrong-clause-ended g c =
    let model = c.args.model.now in
    let script = c.args.script.now in
    let read = c.in_ok-formula.ensures.found in
    let line = c.in-Err-Wrong.line in
    let fault = rw c.in-Err-Wrong.field-0-is at c.in-Err-Wrong.ensures.fault in
    ends_so (Sessions model script) c.refuse_script.result c.end_by.result c.end_by.ensures
    (IfOk-weaker c.refuse_script.result (λ r. reply_of r ≡ script_refused line) (λ r. Sessions model script (reply_of r))
    (λ r is. subst (Sessions model script) (sym is) (bad_line read.0 read.1 line fault)) (rw c.in-Err-Wrong.field-0-is at c.refuse_script.ensures))
