use Rattle.std.proofs.Common.{◌≤◌, length, map, subst, arith}
use Rattle.dlk_kernel.specs.declared.kernel.Kernel.{Kernel}
use Rattle.dlk_rules.specs.Steps.{step_at}
use Rattle.dlk_recorder.specs.Terms.{term_text}
use Rattle.dlk_recorder.specs.Recorded.{IsRecorded}
use Rattle.dlk_recorder.specs.declared.recording.Recorded.TheVariants.{Whole}
use Rattle.dlk_replies.specs.declared.form.Role.TheVariants.{Term}
use Rattle.dlk_replies.specs.Forms.{limit_of}
use Rattle.dlk_jobs_session.specs.Written.{no_file, file}
use Rattle.dlk_jobs_session.proofs.session.saved_term.Goals as goal

pub returns-in_default-clause-file : goal.returns-in_default-clause-file
returns-in_default-clause-file g c = rw c.in_default.ensures.saved no_file

pub returns-in-Whole-clause-file : goal.returns-in-Whole-clause-file
returns-in-Whole-clause-file g c =
    let text = λ (k : Kernel g.row.S.Denot). term_text (map (step_at (g.S.Store.trees k.store)) c.in-Some.saved.now) in
    let recorded = subst (λ k. IsRecorded c.limit.result (text k) (Whole c.in-Whole.term)) c.kernel-kernel.ensures.kernel
    (rw c.in-Whole.is at c.in_ok-term.ensures) in
    let short : length (text c.args.session.now.kernel) ≤ limit_of Term = omega (arith, recorded.1, c.limit.ensures.limit) in
    rw (c.in-Some.ensures.saved, recorded.0) (file {steps = map (step_at (g.S.Store.trees c.args.session.now.kernel.store)) c.in-Some.saved.now} short)
