use Rattle.dlk_tacsyn.specs.Ties.{tactic_at}
use Rattle.dlk_jobs_session.proofs.ReadLines.{no_apply}
use Rattle.dlk_jobs_session.proofs.ScriptLaws.{said_apply, no_goal}
use Rattle.dlk_jobs_session.proofs.script.read_apply.Goals as goal

pub returns-in_default-clause-fault : goal.returns-in_default-clause-fault
returns-in_default-clause-fault g c = no_goal c.args.text.now c.in_default.ensures.none

pub returns-in-Ok-clause-said : goal.returns-in-Ok-clause-said
returns-in-Ok-clause-said g c =
    said_apply c.args.text.now c.in-Some.rest.now c.in-Some.goal (tactic_at (g.S.Store.trees c.strategy.new.store) c.in-Ok.strategy) c.in-Some.ensures.found
    c.in-Ok.ensures.found

pub returns-in-Err-clause-fault : goal.returns-in-Err-clause-fault
returns-in-Err-clause-fault g c =
    rw c.of_syntax.ensures (no_apply c.one_strategy.ensures.no_fault c.args.text.now c.in-Some.rest.now c.in-Some.goal c.in-Some.ensures.found c.in-Err.fault
    c.in-Err.ensures.fault)
