use Rattle.std.proofs.Common.{refl}
use Rattle.dlk_machine.specs.Machine.{step}
use Rattle.dlk_reader.specs.Shows.{seen, Shows}
use Rattle.dlk_reader.proofs.Agree.{ok_same}
use Rattle.dlk_forms.specs.Readers.{ShowsOf}
use Rattle.dlk_forms.specs.declared.expressions.Place.TheVariants as place
use Rattle.dlk_forms.proofs.expressions.step_of.Goals as goal

pub returns : goal.returns
returns c = λ x h.
    let mode = c.in_ok-step.field-0 in
    ok_same (Shows c.step.new.self) (ShowsOf c.args.sort c.step.new.self) mode (place.Of c.args.sort mode) (step c.args.sort x (seen c.args.lexeme))
    (λ y k. record { mode = mode; place = refl; shows = k }) (c.in_ok-step.ensures x h)
