use Rattle.std.proofs.Common.{◌≡◌, ℕ, List, Err, ap}
use Rattle.std.specs.Prelude.{IsTrue}
use Rattle.std.proofs.lemmas.Result.{err_from_is_err_and}
use Rattle.dlk_calculus.specs.Rules.{PlaceAndName}
use Rattle.dlk_tree.specs.Names.{is_name}
use Rattle.dlk_lines.specs.declared.fault.LineFault.TheVariants.{Memory}
use Rattle.dlk_lines.specs.Spelled.{Spelling}
use Rattle.dlk_lines.specs.Lines.{IsArguments}
use Rattle.dlk_lines.proofs.Forms.{argument_parts, place_and_name_are, no_name_behind}
use Rattle.dlk_lines.proofs.Refusals.{fault_of_whole}
use Rattle.dlk_lines.proofs.arguments.place_and_name.Goals as goal

pub returns-in_default-clause-fault : goal.returns-in_default-clause-fault
returns-in_default-clause-fault c = λ w i y is.
    let p = argument_parts w c.args.text.now (PlaceAndName i y) is in
    c.in_default.ensures.none i y p.0

pub returns-in_err-name-clause-fault : goal.returns-in_err-name-clause-fault
returns-in_err-name-clause-fault c =
    let e = err_from_is_err_and c.from_residual.result c.from_residual.ensures.1 in
    let up : (¬ IsTrue (is_name c.in-Some.rest.now)) → (w : Spelling) (i : ℕ) (y : List ℕ) → ¬ IsArguments w c.args.text.now (PlaceAndName i y) =
    (λ none w. no_name_behind w c.args.text.now _ _ c.in-Some.ensures.found none) in
    rw (e.1, e.2) (fault_of_whole up _ c.in_err-name.ensures.fault)

pub returns-clause-found : goal.returns-clause-found
returns-clause-found c = λ w. rw c.in_ok-name.ensures.found (place_and_name_are w c.args.text.now _ _ c.in-Some.ensures.found c.in_ok-name.ensures.real)

pub returns-in_err-name-clause-memory : goal.returns-in_err-name-clause-memory
returns-in_err-name-clause-memory c =
    let e = err_from_is_err_and c.from_residual.result c.from_residual.ensures.1 in
    rw (e.1, e.2) (λ is. let why : c.in_err-name.field-0.0 ≡ Memory = cc is in
    (c.in-Some.place, c.in-Some.rest.now, c.in-Some.ensures.found, c.in_err-name.ensures.memory (ap Err why)))
