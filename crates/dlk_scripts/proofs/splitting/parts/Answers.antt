use Rattle.dlk_scripts.proofs.Parting.{come_first, come_next, come_end, fault_at, end_fault}
use Rattle.dlk_scripts.proofs.splitting.parts.Goals as goal

pub loop-at-init : goal.loop-at-init
loop-at-init c = rw c.new-state.ensures (come_first c.args.bytes.now)

pub returns-in-Err-clause-fault : goal.returns-in-Err-clause-fault
returns-in-Err-clause-fault c =
    rw c.stop.ensures (fault_at c.args.bytes.now c.loop-at.at c.loop-at.state c.step.new.self c.loop-at.invariant c.loop-at-test.true c.in-Err.fault
    c.in-Err.ensures.done)

pub loop-at-preserved : goal.loop-at-preserved
loop-at-preserved c =
    come_next c.args.bytes.now c.loop-at.at c.loop-at.state c.step.new.self c.loop-at.invariant c.loop-at-test.true c.in_default.ensures.done

pub returns-in-Ok-clause-found : goal.returns-in-Ok-clause-found
returns-in-Ok-clause-found c =
    rw c.into_parts.ensures (come_end c.args.bytes.now c.loop-at.at c.loop-at.state c.ended.new.self c.loop-at.invariant c.loop-at-test.false
    c.in-Ok.ensures.done)

pub returns-in-Err-ended-clause-fault : goal.returns-in-Err-ended-clause-fault
returns-in-Err-ended-clause-fault c =
    rw c.stop-in-Err-ended.ensures (end_fault c.args.bytes.now c.loop-at.at c.loop-at.state c.ended.new.self c.loop-at.invariant c.loop-at-test.false
    c.in-Err-ended.fault c.in-Err-ended.ensures.done)
