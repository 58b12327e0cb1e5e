use Rattle.std.proofs.Common.{Some, refl}
use Rattle.std.proofs.lemmas.Result.{err_from_is_err_and}
use Rattle.dlk_tree.specs.declared.op.Sort.TheVariants.{Formula}
use Rattle.dlk_machine.specs.Machine.{step}
use Rattle.dlk_machine.specs.Sequents.{Reading}
use Rattle.dlk_reader.specs.Shows.{seen, Shows}
use Rattle.dlk_forms.specs.Readers.{ShowsSidesAt}
use Rattle.dlk_reader.proofs.Agree.{agrees_err, ok_maps}
use Rattle.dlk_forms.proofs.Steps.{keeps_side}
use Rattle.dlk_forms.proofs.sides.SidesSoFar.step_inner.Goals as goal

pub returns-in_err-step : goal.returns-in_err-step
returns-in_err-step c = λ w l x h.
    let e = err_from_is_err_and c.from_residual.result c.from_residual.ensures.1 in
    let new = record c.args.self.now { stack = c.step.new.self } in
    rw (e.1, e.2) (agrees_err (Shows c.step.new.self) (ShowsSidesAt new) c.in_err-step.field-0.0 (step Formula x (seen c.args.lexeme))
    (λ y. Some (Reading w l y)) (c.in_err-step.ensures x h.shows))

pub returns : goal.returns
returns c = λ w l x h.
    let mode = c.in_ok-step.field-0 in
    let new = record c.args.self.now { stack = c.step.new.self } in
    ok_maps (Shows c.step.new.self) (ShowsSidesAt new) mode (Some mode) (step Formula x (seen c.args.lexeme)) (Reading w l)
    (λ y k. record { mode = mode; mode_is = refl; reading = record { side = keeps_side c.args.self.now c.step.new.self w l h.side; shows = k } })
    (c.in_ok-step.ensures x h.shows)
