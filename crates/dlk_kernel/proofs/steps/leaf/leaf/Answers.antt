use Rattle.std.proofs.Common.{refl}
use Rattle.std.proofs.lemmas.Result.{err_from_is_err_and}
use Rattle.std.proofs.lemmas.Bool.{both_ways}
use Rattle.dlk_calculus.proofs.StepLaws.{first_leaf_no_formulas, first_no_arithmetic}
use Rattle.dlk_kernel.proofs.LeafLaws.{leaf_given}
use Rattle.dlk_kernel.proofs.LimitRows.{leaf_past, leaf_within}
use Rattle.dlk_kernel.proofs.steps.leaf.leaf.Goals as goal

pub returns-then-not-is_sequent-clause-fault : goal.returns-then-not-is_sequent-clause-fault
returns-then-not-is_sequent-clause-fault g c = λ rows.
    first_leaf_no_formulas rows _ (λ h. absurd (both_ways c.is_sequent.result c.if-not-is_sequent.true (c.is_sequent.ensures.1 h)))

pub returns-then-not-is_arith-clause-fault : goal.returns-then-not-is_arith-clause-fault
returns-then-not-is_arith-clause-fault g c = λ rows.
    first_no_arithmetic rows _ (c.is_sequent.ensures.0 c.if-not-is_sequent.false) (cc (c.is_arith.ensures, c.if-not-is_arith.true))

pub returns-in_err-limit_sequents-clause-fault : goal.returns-in_err-limit_sequents-clause-fault
returns-in_err-limit_sequents-clause-fault g c =
    let r = err_from_is_err_and c.from_residual-in_err-limit_sequents.result c.from_residual-in_err-limit_sequents.ensures.1 in
    rw (r.1, r.2) (leaf_past _ c.args.s.now (c.is_sequent.ensures.0 c.if-not-is_sequent.false) (cc (c.is_arith.ensures, c.if-not-is_arith.false))
    c.as_slice.result.now
    (rw (c.as_slice.ensures, c.from_vec-leaves.ensures, c.in_ok-vec.ensures.items, c.in_ok-own.ensures)
    (rw (c.in_ok-conclusion.ensures, c.in_ok-copy.ensures) refl)) _ c.in_err-limit_sequents.ensures.past)

pub returns-clause-given : goal.returns-clause-given
returns-clause-given g c =
    leaf_given _ c.args.s.now _ (c.is_sequent.ensures.0 c.if-not-is_sequent.false) (cc (c.is_arith.ensures, c.if-not-is_arith.false))
    (rw (c.in_ok-conclusion.ensures, c.in_ok-copy.ensures, c.new-goals.ensures, c.in_ok-leaves.ensures)
    (rw (c.from_vec-leaves.ensures, c.in_ok-vec.ensures.items, c.in_ok-own.ensures, c.in_ok-conclusion.ensures, c.in_ok-copy.ensures) refl))

pub returns-clause-within : goal.returns-clause-within
returns-clause-within g c =
    leaf_within _ c.args.s.now (c.is_sequent.ensures.0 c.if-not-is_sequent.false) (cc (c.is_arith.ensures, c.if-not-is_arith.false)) c.as_slice.result.now
    (rw (c.as_slice.ensures, c.from_vec-leaves.ensures, c.in_ok-vec.ensures.items, c.in_ok-own.ensures)
    (rw (c.in_ok-conclusion.ensures, c.in_ok-copy.ensures) refl)) c.in_ok-limit_sequents.ensures.within _
    (rw (c.in_ok-conclusion.ensures, c.in_ok-copy.ensures, c.new-goals.ensures, c.in_ok-leaves.ensures)
    (rw (c.from_vec-leaves.ensures, c.in_ok-vec.ensures.items, c.in_ok-own.ensures, c.in_ok-conclusion.ensures, c.in_ok-copy.ensures) refl))
