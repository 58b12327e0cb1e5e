use Rattle.std.proofs.lemmas.Result.{err_from_is_err_and}
use Rattle.dlk_rules.specs.Steps.{step_at}
use Rattle.dlk_kernel.specs.Kernel.{facts}
use Rattle.dlk_lines.proofs.Refusals.{fault_of_whole}
use Rattle.dlk_replay.specs.Replay.{IsLineInFull}
use Rattle.dlk_replay.proofs.TakenLine.{step_wrong, text_wrong, none_in_full}
use Rattle.dlk_replay.proofs.taking.take_in_full.Goals as goal

pub returns-in_err-take_step-in-Ok-Step-clause-fault : goal.returns-in_err-take_step-in-Ok-Step-clause-fault
returns-in_err-take_step-in-Ok-Step-clause-fault g c =
    let p = err_from_is_err_and c.from_residual.result c.from_residual.ensures.1 in
    let trees = g.S.Store.trees c.read_line.new.store.store in
    let rows = facts g.S.Store.trees c.args.kernel.now in
    let read = facts g.S.Store.trees c.read_line.new.store in
    let is = rw c.in-Ok-Step.field-0-is at c.in-Ok-Step.ensures.found in
    rw (p.1, p.2) (step_wrong IsLineInFull c.args.line.now 0 c.args.place c.in-Ok-Step.number rows read (step_at trees c.in-Ok-Step.step) _ is
    c.read_line.ensures.grows.1.provables c.in_err-take_step-in-Ok-Step.ensures.fault)

pub returns-in-Err-clause-fault : goal.returns-in-Err-clause-fault
returns-in-Err-clause-fault g c =
    let text = c.args.line.now in
    let wrong = fault_of_whole (none_in_full text) c.in-Err.fault c.in-Err.ensures.fault in
    rw c.of_text.ensures (text_wrong IsLineInFull text 0 c.args.place (facts g.S.Store.trees c.args.kernel.now) c.in-Err.fault wrong)

pub returns-in_err-take_step-in-Ok-Step-clause-grows : goal.returns-in_err-take_step-in-Ok-Step-clause-grows
returns-in_err-take_step-in-Ok-Step-clause-grows g c =
    g.met.S.Store.grows_trans c.args.kernel.now.store c.read_line.new.store.store c.take_step.new.kernel.store c.read_line.ensures.grows.0
    c.take_step.ensures.grows

pub returns-in_ok-take_step-in-Ok-Step-clause-grows : goal.returns-in_ok-take_step-in-Ok-Step-clause-grows
returns-in_ok-take_step-in-Ok-Step-clause-grows g c =
    g.met.S.Store.grows_trans c.args.kernel.now.store c.read_line.new.store.store c.take_step.new.kernel.store c.read_line.ensures.grows.0
    c.take_step.ensures.grows
