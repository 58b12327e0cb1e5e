use Rattle.std.proofs.Common.{◌≡◌, Err, ap}
use Rattle.std.proofs.lemmas.Result.{err_from_is_err_and}
use Rattle.dlk_lines.specs.declared.fault.LineFault.TheVariants.{Memory}
use Rattle.dlk_lines.proofs.StepForms.{no_rule_behind}
use Rattle.dlk_lines.proofs.Refusals.{fault_of_whole}
use Rattle.dlk_lines.proofs.step.read_apply.Goals as goal

pub returns-in_err-rule-clause-fault : goal.returns-in_err-rule-clause-fault
returns-in_err-rule-clause-fault g c =
    let e = err_from_is_err_and c.from_residual.result c.from_residual.ensures.1 in
    rw (e.1, e.2) (fault_of_whole (no_rule_behind _ c.args.text.now _ _ _ c.in-Some.ensures.found) _ c.in_err-rule.ensures.fault)

pub returns-in_default-clause-fault : goal.returns-in_default-clause-fault
returns-in_default-clause-fault g c = λ fact h rule is. c.in_default.ensures.none fact h is.behind_goal is.numbers

pub returns-in_err-rule-clause-memory : goal.returns-in_err-rule-clause-memory
returns-in_err-rule-clause-memory g c =
    let e = err_from_is_err_and c.from_residual.result c.from_residual.ensures.1 in
    rw (e.1, e.2) (λ is. let why : c.in_err-rule.field-0.0 ≡ Memory = cc is in record {
      fact = c.in-Some.fact;
      goal = c.in-Some.goal;
      behind_goal = c.in-Some.rest.now;
      numbers = c.in-Some.ensures.found;
      rule_wants = c.in_err-rule.ensures.memory (ap Err why);
    })
