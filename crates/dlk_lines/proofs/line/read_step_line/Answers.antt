use Rattle.std.proofs.Common.{◌≡◌, Err, ap}
use Rattle.std.proofs.lemmas.Result.{err_from_is_err_and}
use Rattle.dlk_lines.specs.declared.fault.LineFault.TheVariants.{Memory}
use Rattle.dlk_lines.proofs.LineForms.{numbered_line, no_number, no_step}
use Rattle.dlk_lines.proofs.Refusals.{fault_of_whole}
use Rattle.dlk_lines.proofs.line.read_step_line.Goals as goal

pub returns-in_default-clause-fault : goal.returns-in_default-clause-fault
returns-in_default-clause-fault g c = no_number _ c.args.line.now c.in_default.ensures.none

pub returns-in_err-step-clause-fault : goal.returns-in_err-step-clause-fault
returns-in_err-step-clause-fault g c =
    let p = err_from_is_err_and c.from_residual.result c.from_residual.ensures.1 in
    rw (p.1, p.2) (fault_of_whole (no_step _ c.args.line.now _ _ c.in-Some.ensures.found) _ c.in_err-step.ensures.fault)

pub returns-clause-found : goal.returns-clause-found
returns-clause-found g c =
    numbered_line _ c.args.line.now _ _
    (record { rest = c.in-Some.text.now; number_is = c.in-Some.ensures.found; step_is = c.in_ok-step.ensures.found })

pub returns-in_err-step-clause-memory : goal.returns-in_err-step-clause-memory
returns-in_err-step-clause-memory g c =
    let p = err_from_is_err_and c.from_residual.result c.from_residual.ensures.1 in
    rw (p.1, p.2) (λ is. let why : c.in_err-step.field-0.0 ≡ Memory = cc is in record {
      number = c.in-Some.number;
      rest = c.in-Some.text.now;
      number_is = c.in-Some.ensures.found;
      step_wants = c.in_err-step.ensures.memory (ap Err why);
    })
