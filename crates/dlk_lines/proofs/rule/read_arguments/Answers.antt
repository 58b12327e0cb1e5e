use Rattle.std.proofs.Common.{◌≡◌, Err, sym, ap, ◌∙◌}
use Rattle.std.proofs.lemmas.Result.{err_from_is_err_and}
use Rattle.dlk_tree.specs.Trees.{Tree}
use Rattle.dlk_calculus.specs.Rules.{Arguments}
use Rattle.dlk_rules.specs.declared.arguments.Shape.TheVariants as shape
use Rattle.dlk_rules.specs.Words.{shape_of}
use Rattle.dlk_lines.specs.declared.fault.LineFault.TheVariants.{Memory}
use Rattle.dlk_lines.specs.Spelled.{IsFormulaText}
use Rattle.dlk_lines.specs.Lines.{IsArguments, one_place, one_formula}
use Rattle.dlk_lines.proofs.Forms.{lacking}
use Rattle.dlk_lines.proofs.Refusals.{fault_of_whole}
use Rattle.dlk_lines.proofs.rule.read_arguments.Goals as goal

pub returns-in-Some-clause-found : goal.returns-in-Some-clause-found
returns-in-Some-clause-found g c = one_place c.in-Some.ensures

pub returns-in_ok-h-in-OneFormula-clause-found : goal.returns-in_ok-h-in-OneFormula-clause-found
returns-in_ok-h-in-OneFormula-clause-found g c = one_formula c.in_ok-h-in-OneFormula.ensures.found

pub returns-in_err-h-in-OneFormula-clause-fault : goal.returns-in_err-h-in-OneFormula-clause-fault
returns-in_err-h-in-OneFormula-clause-fault g c =
    let e = err_from_is_err_and c.from_residual-in_err-h-in-OneFormula.result c.from_residual-in_err-h-in-OneFormula.ensures.1 in
    let w = g.P.Spelled.spelling c.args.spelled.now (g.S.Store.trees c.args.store.now) in
    let up : ((h : Tree) → ¬ IsFormulaText w c.args.text.now h) → (a : Arguments) → c.args.shape ≡ shape_of a → ¬ IsArguments w c.args.text.now a =
    (λ none a s. lacking w c.args.text.now shape.OneFormula none a (sym c.in-OneFormula.is ∙ s)) in
    rw (e.1, e.2) (fault_of_whole up _ c.in_err-h-in-OneFormula.ensures.fault)

pub returns-in_err-place-in-PlaceAndFormula-clause-memory : goal.returns-in_err-place-in-PlaceAndFormula-clause-memory
returns-in_err-place-in-PlaceAndFormula-clause-memory g c =
    let e = err_from_is_err_and c.from_residual.result c.from_residual.ensures.1 in
    rw (e.1, e.2, c.in-PlaceAndFormula.is) (λ is. let why : c.in_err-place-in-PlaceAndFormula.field-0.0 ≡ Memory = cc is in
    c.in_err-place-in-PlaceAndFormula.ensures.memory (ap Err why))

pub returns-in_err-h-in-OneFormula-clause-memory : goal.returns-in_err-h-in-OneFormula-clause-memory
returns-in_err-h-in-OneFormula-clause-memory g c = rw c.in-OneFormula.is (λ is. tt)

pub returns-in_err-place-in-PlaceAndName-clause-memory : goal.returns-in_err-place-in-PlaceAndName-clause-memory
returns-in_err-place-in-PlaceAndName-clause-memory g c =
    let e = err_from_is_err_and c.from_residual-in_err-place-in-PlaceAndName.result c.from_residual-in_err-place-in-PlaceAndName.ensures.1 in
    rw (e.1, e.2, c.in-PlaceAndName.is) (λ is. let why : c.in_err-place-in-PlaceAndName.field-0.0 ≡ Memory = cc is in
    c.in_err-place-in-PlaceAndName.ensures.memory (ap Err why))
