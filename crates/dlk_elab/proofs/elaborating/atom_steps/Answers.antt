use Rattle.dlk_kernel.proofs.RowsKept.{rows_stay, rows_same_after, rows_longer}
use Rattle.std.proofs.Common.{List, map, subst, inl, inr}
use Rattle.std.proofs.lemmas.Result.{err_from_is_err_and}
use Rattle.dlk_calculus.specs.Provables.{Provable}
use Rattle.dlk_kernel.specs.Faults.{IsStepFault}
use Rattle.dlk_kernel.specs.Kernel.{facts}
use Rattle.dlk_kernel.specs.Taken.{Takes}
use Rattle.dlk_rules.specs.Steps.{step_at}
use Rattle.dlk_tacsyn.specs.Ties.{atom_at}
use Rattle.dlk_elab.specs.Atoms.{FirstFault}
use Rattle.dlk_elab.specs.Calls.{IsCall, CallIsKnown}
use Rattle.dlk_elab.proofs.CallsFit.{uses_none, named_use}
use Rattle.dlk_elab.proofs.Elaborates.{steps_same, known_later, fault_of_step, steps_made}
use Rattle.dlk_elab.proofs.elaborating.atom_steps.Goals as goal

pub use_axiom-requires-clause-call : goal.use_axiom-requires-clause-call
use_axiom-requires-clause-call g c =
    let trees = g.S.Store.trees c.args.kernel.now.store in
    subst (IsCall trees (atom_at trees c.args.atom.now)) c.in-Use.is (c.call_of-call.ensures.call trees c.requires.fitting c.requires.fixed)

pub use_axiom-requires-clause-given : goal.use_axiom-requires-clause-given
use_axiom-requires-clause-given g c =
    let trees = g.S.Store.trees c.args.kernel.now.store in
    subst (CallIsKnown trees) c.in-Use.is (c.call_of-call.ensures.known trees c.requires.known)

pub planned-requires-clause-call : goal.planned-requires-clause-call
planned-requires-clause-call g c = c.call_of-call.ensures.call (g.S.Store.trees c.args.kernel.now.store) c.requires.fitting c.requires.fixed

pub planned-requires-clause-call_known : goal.planned-requires-clause-call_known
planned-requires-clause-call_known g c = c.call_of-call.ensures.known (g.S.Store.trees c.args.kernel.now.store) c.requires.known

pub planned-requires-clause-no_use : goal.planned-requires-clause-no_use
planned-requires-clause-no_use g c = uses_none c.call_of-call.result c.in_default.not-Use

pub returns-in_err-take_in_turn-clause-fault : goal.returns-in_err-take_in_turn-clause-fault
returns-in_err-take_in_turn-clause-fault g c =
    let trees = g.S.Store.trees c.planned.new.kernel.store in
    let rows = facts g.S.Store.trees c.args.kernel.now in
    let plan = c.in_ok-plan.plan.items in
    let p = err_from_is_err_and c.from_residual-in_err-take_in_turn.result c.from_residual-in_err-take_in_turn.ensures.1 in
    rw (p.1, p.2) (fault_of_step rows c.args.target.fact c.args.target.goal (atom_at (g.S.Store.trees c.args.kernel.now.store) c.args.atom.now) trees plan
    c.in_ok-plan.ensures.plan c.in_err-take_in_turn.field-0.0
    (subst (λ (r : List Provable). IsStepFault (FirstFault r (map (step_at trees) plan)) c.in_err-take_in_turn.field-0.0) c.planned.ensures.same.provables
    (rw c.as_slice.ensures.value at c.in_err-take_in_turn.ensures.fault)))

pub returns-clause-made : goal.returns-clause-made
returns-clause-made g c =
    let trees = g.S.Store.trees c.planned.new.kernel.store in
    let new = g.S.Store.trees c.take_in_turn.new.kernel.store in
    let rows = facts g.S.Store.trees c.args.kernel.now in
    let plan = c.in_ok-plan.plan.items in
    let keeps = g.met.S.Store.grows_keeps c.planned.new.kernel.store c.take_in_turn.new.kernel.store c.take_in_turn.ensures.grows in
    let known = c.in_ok-plan.ensures.plan.known in
    let same = steps_same trees new (λ s k. c.step_stays.ensures.same trees new s keeps k) plan known in
    steps_made rows c.args.target.fact c.args.target.goal (atom_at (g.S.Store.trees c.args.kernel.now.store) c.args.atom.now) trees plan
    c.in_ok-plan.ensures.plan new (facts g.S.Store.trees c.take_in_turn.new.kernel) same
    (known_later trees new (λ s k. c.step_stays.ensures.known trees new s keeps k) plan known)
    (subst (λ (r : List Provable). Takes r (map (step_at trees) plan) (facts g.S.Store.trees c.take_in_turn.new.kernel)) c.planned.ensures.same.provables
    (rw c.as_slice.ensures.value at c.in_ok-take_in_turn.ensures.taken))

pub returns-in-Use-clause-memory : goal.returns-in-Use-clause-memory
returns-in-Use-clause-memory g c = λ is.
    let trees = g.S.Store.trees c.args.kernel.now.store in
    let call = subst (IsCall trees (atom_at trees c.args.atom.now)) c.in-Use.is (c.call_of-call.ensures.call trees c.requires.fitting c.requires.fixed) in
    inr (named_use c.args.atom.now.name _ call.0)

pub returns-in_err-plan-clause-memory : goal.returns-in_err-plan-clause-memory
returns-in_err-plan-clause-memory g c =
    let p = err_from_is_err_and c.from_residual.result c.from_residual.ensures.1 in rw (p.1, p.2) (λ is. inl (c.in_err-plan.ensures.memory is))

pub returns-in_err-take_in_turn-clause-memory : goal.returns-in_err-take_in_turn-clause-memory
returns-in_err-take_in_turn-clause-memory g c = λ is.
    let asked = c.in_ok-plan.ensures.plan in
    inl (record {
      s = asked.s;
      is_goal = asked.is_goal;
      steps = map (step_at (g.S.Store.trees c.planned.new.kernel.store)) c.in_ok-plan.plan.items;
      asks = asked.asks;
    })

pub returns-in_err-plan-clause-kept : goal.returns-in_err-plan-clause-kept
returns-in_err-plan-clause-kept g c =
    let tr = g.S.Store.trees in let a = c.args.kernel.now in let b = c.planned.new.kernel in
    rows_same_after tr a a b (rows_stay tr a) c.planned.ensures.same

pub returns-in_err-take_in_turn-clause-kept : goal.returns-in_err-take_in_turn-clause-kept
returns-in_err-take_in_turn-clause-kept g c =
    let tr = g.S.Store.trees in let a = c.args.kernel.now in let b = c.planned.new.kernel in
    rows_longer tr a b c.take_in_turn.new.kernel
    (rows_same_after tr a a b (rows_stay tr a) c.planned.ensures.same) c.take_in_turn.ensures.kept

pub returns-clause-kept : goal.returns-clause-kept
returns-clause-kept g c =
    let tr = g.S.Store.trees in let a = c.args.kernel.now in let b = c.planned.new.kernel in
    rows_longer tr a b c.take_in_turn.new.kernel
    (rows_same_after tr a a b (rows_stay tr a) c.planned.ensures.same) c.take_in_turn.ensures.kept

pub returns-in_err-take_in_turn-clause-grows : goal.returns-in_err-take_in_turn-clause-grows
returns-in_err-take_in_turn-clause-grows g c =
    g.met.S.Store.grows_trans c.args.kernel.now.store c.planned.new.kernel.store c.take_in_turn.new.kernel.store c.planned.ensures.grows
    c.take_in_turn.ensures.grows

pub returns-clause-grows : goal.returns-clause-grows
returns-clause-grows g c =
    g.met.S.Store.grows_trans c.args.kernel.now.store c.planned.new.kernel.store c.take_in_turn.new.kernel.store c.planned.ensures.grows
    c.take_in_turn.ensures.grows
