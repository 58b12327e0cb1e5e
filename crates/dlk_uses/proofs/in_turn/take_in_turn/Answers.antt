use Rattle.std.proofs.Common.{subst, sym}
use Rattle.std.proofs.lemmas.Result.{err_from_is_err_and}
use Rattle.dlk_rules.specs.Steps.{HasKnownIds}
use Rattle.dlk_kernel.specs.Kernel.{facts}
use Rattle.dlk_kernel.specs.Taken.{none}
use Rattle.dlk_kernel.proofs.Limited.{fault_weaker}
use Rattle.dlk_kernel.proofs.RowsKept.{rows_stay, rows_longer}
use Rattle.dlk_uses.proofs.InTurn.{takes_next, fault_next}
use Rattle.dlk_uses.proofs.in_turn.take_in_turn.Goals as goal

pub loop-step-init : goal.loop-step-init
loop-step-init g c = record {
  taken = none;
  kept = rows_stay g.S.Store.trees c.args.kernel.now;
  grows = g.met.S.Store.grows_refl c.args.kernel.now.store;
}

pub returns-in_err-step-clause-fault : goal.returns-in_err-step-clause-fault
returns-in_err-step-clause-fault g c =
    let old = g.S.Store.trees c.args.kernel.now.store in
    let new = g.S.Store.trees c.loop-step.kernel.store in
    let keeps = g.met.S.Store.grows_keeps c.args.kernel.now.store c.loop-step.kernel.store c.loop-step.invariant.grows in
    let known : HasKnownIds old c.step-item.result = subst (HasKnownIds old) (sym c.step-item.is) (c.requires c.loop-step.step-index c.step-item.result
    c.loop-step-test.true) in
    let same = c.step_stays.ensures.same old new c.step-item.result keeps known in
    let p = err_from_is_err_and c.from_residual.result c.from_residual.ensures.1 in
    rw (p.1, p.2) (fault_weaker _ _
    (fault_next old new c.args.plan.now c.loop-step.step-index c.step-item.result c.loop-step-test.true c.step-item.is same (facts g.S.Store.trees
    c.args.kernel.now)
    (facts g.S.Store.trees c.loop-step.kernel) c.loop-step.invariant.taken) c.in_err-step.field-0.0 c.in_err-step.ensures.fault)

pub loop-step-preserved : goal.loop-step-preserved
loop-step-preserved g c =
    let old = g.S.Store.trees c.args.kernel.now.store in
    let new = g.S.Store.trees c.loop-step.kernel.store in
    let keeps = g.met.S.Store.grows_keeps c.args.kernel.now.store c.loop-step.kernel.store c.loop-step.invariant.grows in
    let known : HasKnownIds old c.step-item.result = subst (HasKnownIds old) (sym c.step-item.is) (c.requires c.loop-step.step-index c.step-item.result
    c.loop-step-test.true) in
    let same = c.step_stays.ensures.same old new c.step-item.result keeps known in
    record {
      taken = takes_next old new c.args.plan.now c.loop-step.step-index c.step-item.result c.loop-step-test.true c.step-item.is same
          (facts g.S.Store.trees c.args.kernel.now) (facts g.S.Store.trees c.loop-step.kernel) (facts g.S.Store.trees c.step.new.self)
          c.loop-step.invariant.taken c.in_ok-step.ensures.ok;
      kept = rows_longer g.S.Store.trees c.args.kernel.now c.loop-step.kernel c.step.new.self c.loop-step.invariant.kept c.in_ok-step.ensures.kept;
      grows = g.met.S.Store.grows_trans c.args.kernel.now.store c.loop-step.kernel.store c.step.new.self.store c.loop-step.invariant.grows c.step.ensures.grows;
    }
