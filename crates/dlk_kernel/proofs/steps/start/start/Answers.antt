use Rattle.std.proofs.Common.{refl}
use Rattle.std.proofs.lemmas.Result.{err_from_is_err_and}
use Rattle.std.proofs.lemmas.Bool.{both_ways}
use Rattle.dlk_calculus.proofs.StepLaws.{first_start_no_formulas}
use Rattle.dlk_kernel.proofs.RowLaws.{started_given}
use Rattle.dlk_kernel.proofs.LimitRows.{start_past, start_within}
use Rattle.dlk_kernel.proofs.steps.start.start.Goals as goal

pub returns-then-not-is_sequent-clause-fault : goal.returns-then-not-is_sequent-clause-fault
returns-then-not-is_sequent-clause-fault g c = λ rows.
    first_start_no_formulas rows _ (λ h. absurd (both_ways c.is_sequent.result c.if-not-is_sequent.true (c.is_sequent.ensures.1 h)))

pub returns-in_err-limit_sequents-clause-fault : goal.returns-in_err-limit_sequents-clause-fault
returns-in_err-limit_sequents-clause-fault g c =
    let r = err_from_is_err_and c.from_residual-in_err-limit_sequents.result c.from_residual-in_err-limit_sequents.ensures.1 in
    rw (r.1, r.2) (start_past _ c.args.s.now (c.is_sequent.ensures.0 c.if-not-is_sequent.false) c.as_slice.result.now
    (rw (c.as_slice.ensures, c.one-goals.ensures, c.in_ok-goal.ensures)
    (rw (c.in_ok-conclusion.ensures, c.in_ok-copy.ensures) refl)) _ c.in_err-limit_sequents.ensures.past)

pub returns-clause-given : goal.returns-clause-given
returns-clause-given g c =
    started_given _ c.args.s.now _ (c.is_sequent.ensures.0 c.if-not-is_sequent.false)
    (rw (c.in_ok-conclusion.ensures, c.in_ok-copy.ensures, c.in_ok-leaves.ensures, c.new-2.ensures)
    (rw (c.one-goals.ensures, c.in_ok-goal.ensures, c.in_ok-conclusion.ensures, c.in_ok-copy.ensures) refl))

pub returns-clause-within : goal.returns-clause-within
returns-clause-within g c =
    start_within _ c.args.s.now (c.is_sequent.ensures.0 c.if-not-is_sequent.false) c.as_slice.result.now
    (rw (c.as_slice.ensures, c.one-goals.ensures, c.in_ok-goal.ensures)
    (rw (c.in_ok-conclusion.ensures, c.in_ok-copy.ensures) refl)) c.in_ok-limit_sequents.ensures.within _
    (rw (c.in_ok-conclusion.ensures, c.in_ok-copy.ensures, c.in_ok-leaves.ensures, c.new-2.ensures)
    (rw (c.one-goals.ensures, c.in_ok-goal.ensures, c.in_ok-conclusion.ensures, c.in_ok-copy.ensures) refl))
