use Rattle.std.proofs.Common.{sym, ◌∙◌}
use Rattle.std.proofs.lemmas.Result.{err_from_is_err_and}
use Rattle.dlk_grammar.specs.declared.token.Dots.TheVariants.{Refused}
use Rattle.dlk_grammar.specs.Readings.{permits}
use Rattle.dlk_machine.specs.Sequents.{sequent_step}
use Rattle.dlk_reader.specs.Shows.{seen}
use Rattle.dlk_forms.specs.Readers.{ShowsSidesAt, ShowsSides}
use Rattle.dlk_forms.specs.declared.sides.SidesReader.{SidesReader}
use Rattle.dlk_forms.proofs.TreeSteps.{when_err, when_ok}
use Rattle.dlk_forms.proofs.sides.SidesReader.go_on.Goals as goal

pub returns-in_err-self-clause-agrees : goal.returns-in_err-self-clause-agrees
returns-in_err-self-clause-agrees c = λ x h.
    let e = err_from_is_err_and c.from_residual.result c.from_residual.ensures.1 in
    let k = seen c.args.lexeme in
    let permitted = sym c.permits.ensures ∙ c.if-not-permits.false in
    rw (e.1, e.2) (when_err (ShowsSidesAt c.step.new.self) ShowsSides c.in_err-self.field-0.0 (permits Refused k) (sequent_step x k) permitted
    (c.in_err-self.ensures x (rw c.take-mode.ensures.value h)))

pub returns-clause-agrees : goal.returns-clause-agrees
returns-clause-agrees c = λ x h.
    let k = seen c.args.lexeme in
    let permitted = sym c.permits.ensures ∙ c.if-not-permits.false in
    let next : SidesReader = record { sides = c.step.new.self; mode = c.in_ok-self.field-0 } in
    when_ok (ShowsSidesAt c.step.new.self) ShowsSides c.in_ok-self.field-0 next (permits Refused k) (sequent_step x k) permitted (λ y s. s)
    (c.in_ok-self.ensures x (rw c.take-mode.ensures.value h))
