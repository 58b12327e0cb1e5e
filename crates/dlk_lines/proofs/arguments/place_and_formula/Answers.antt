use Rattle.std.proofs.lemmas.Result.{err_from_is_err_and}
use Rattle.dlk_calculus.specs.Rules.{PlaceAndFormula}
use Rattle.dlk_lines.proofs.Forms.{argument_parts, place_and_formula_are, no_formula_behind}
use Rattle.dlk_lines.proofs.Refusals.{fault_of_whole}
use Rattle.dlk_lines.proofs.arguments.place_and_formula.Goals as goal

pub returns-in_default-clause-fault : goal.returns-in_default-clause-fault
returns-in_default-clause-fault g c = λ i h is.
    let p = argument_parts _ c.args.text.now (PlaceAndFormula i h) is in
    c.in_default.ensures.none i p.0 p.1

pub returns-in_err-formula-clause-fault : goal.returns-in_err-formula-clause-fault
returns-in_err-formula-clause-fault g c =
    let e = err_from_is_err_and c.from_residual.result c.from_residual.ensures.1 in
    rw (e.1, e.2) (fault_of_whole (no_formula_behind _ c.args.text.now _ _ c.in-Some.ensures.found) _ c.in_err-formula.ensures.fault)

pub returns-clause-found : goal.returns-clause-found
returns-clause-found g c = place_and_formula_are _ c.args.text.now _ _ _ c.in-Some.ensures.found c.in_ok-formula.ensures.found

pub returns-in_err-formula-clause-memory : goal.returns-in_err-formula-clause-memory
returns-in_err-formula-clause-memory g c = λ is. (c.in-Some.place, c.in-Some.rest.now, c.in-Some.ensures.found)
