use Rattle.std.proofs.Common.{Some, refl}
use Rattle.std.proofs.lemmas.Result.{err_from_is_err_and}
use Rattle.dlk_tree.specs.declared.op.Sort.TheVariants.{Formula}
use Rattle.dlk_machine.specs.Machine.{step}
use Rattle.dlk_machine.specs.Expressions.{AsFormula}
use Rattle.dlk_reader.specs.Shows.{seen, Shows}
use Rattle.dlk_forms.specs.Readers.{ShowsExpression}
use Rattle.dlk_forms.specs.declared.expressions.Place.TheVariants as place
use Rattle.dlk_reader.proofs.Agree.{agrees_err, ok_maps}
use Rattle.dlk_forms.proofs.expressions.step_either.Goals as goal

pub returns-in_err-step : goal.returns-in_err-step
returns-in_err-step c = λ x h.
    let w = err_from_is_err_and c.from_residual.result c.from_residual.ensures.1 in
    rw (w.1, w.2) (agrees_err (Shows c.step.new.self) (ShowsExpression c.step.new.self) c.in_err-step.field-0.0 (step Formula x (seen c.args.lexeme))
    (λ y. Some (AsFormula y)) (c.in_err-step.ensures x h))

pub returns : goal.returns
returns c = λ x h.
    let mode = c.in_ok-step.field-0 in
    ok_maps (Shows c.step.new.self) (ShowsExpression c.step.new.self) mode (place.Either mode) (step Formula x (seen c.args.lexeme)) AsFormula
    (λ y k. record { mode = mode; place = refl; shows = k }) (c.in_ok-step.ensures x h)
