use Rattle.std.proofs.Common.{map, subst}
use Rattle.dlk_kernel.specs.Faults.{IsStepFault}
use Rattle.dlk_kernel.specs.Kernel.{facts}
use Rattle.dlk_rules.specs.Steps.{step_at}
use Rattle.dlk_uses.specs.Taking.{FirstFault}
use Rattle.dlk_link.proofs.InTurn.{no_fault_behind}
use Rattle.dlk_link.proofs.taking.take_known.Goals as goal

pub unreachable-requires : goal.unreachable-requires
unreachable-requires g c =
    let old = g.S.Store.trees c.args.kernel.now.store in
    let plan = map (step_at old) c.args.plan.now in
    let rows = facts g.S.Store.trees c.args.kernel.now in
    let why = c.in-Err-Refused.field-0-0 in
    let fault : FirstFault rows plan why = subst (IsStepFault (FirstFault rows plan)) c.in-Err-Refused.field-0-is c.in-Err-Refused.ensures.fault in
    no_fault_behind rows plan c.requires.taken.0 why c.requires.taken.1 fault
