use Rattle.std.proofs.lemmas.Result.{err_from_is_err_and}
use Rattle.dlk_lines.proofs.StepForms.{no_pairs_behind}
use Rattle.dlk_lines.proofs.Refusals.{fault_of_whole}
use Rattle.dlk_lines.proofs.step.read_subst.Goals as goal

pub returns-in_default-clause-fault : goal.returns-in_default-clause-fault
returns-in_default-clause-fault g c = λ fact pairs is. c.in_default.ensures.none fact is.behind_fact is.fact_is

pub returns-in_err-pairs-clause-fault : goal.returns-in_err-pairs-clause-fault
returns-in_err-pairs-clause-fault g c =
    let e = err_from_is_err_and c.from_residual.result c.from_residual.ensures.1 in
    rw (e.1, e.2) (fault_of_whole (no_pairs_behind _ c.args.text.now _ _ c.in-Some.ensures.found) _ c.in_err-pairs.ensures.fault)

pub returns-in_err-pairs-clause-memory : goal.returns-in_err-pairs-clause-memory
returns-in_err-pairs-clause-memory g c = λ is. (c.in-Some.fact, c.in-Some.rest.now, c.in-Some.ensures.found)
