use Rattle.std.proofs.Common.{sym, ◌∙◌}
use Rattle.std.proofs.lemmas.Result.{err_from_is_err_and}
use Rattle.dlk_grammar.specs.declared.token.Dots.TheVariants.{Allowed}
use Rattle.dlk_grammar.specs.Readings.{permits}
use Rattle.dlk_machine.specs.Extras.{extra_step}
use Rattle.dlk_reader.specs.Shows.{seen}
use Rattle.dlk_forms.specs.ExtraReaders.{ShowsExtraAt, ShowsExtra}
use Rattle.dlk_forms.specs.declared.extras.ExtraReader.{ExtraReader}
use Rattle.dlk_forms.proofs.TreeSteps.{when_err, when_ok}
use Rattle.dlk_forms.proofs.extras.ExtraReader.go_on.Goals as goal

pub returns-in_err-self : goal.returns-in_err-self
returns-in_err-self c = λ x h.
    let e = err_from_is_err_and c.from_residual.result c.from_residual.ensures.1 in
    let k = seen c.args.lexeme in
    let permitted = sym c.permits.ensures ∙ c.if-not-permits.false in
    rw (e.1, e.2) (when_err (ShowsExtraAt c.step.new.self) ShowsExtra c.in_err-self.field-0.0 (permits Allowed k) (extra_step x k) permitted
    (c.in_err-self.ensures x (rw c.replace-mode.ensures.value h)))

pub returns : goal.returns
returns c = λ x h.
    let k = seen c.args.lexeme in
    let mode = c.in_ok-self.field-0 in
    let permitted = sym c.permits.ensures ∙ c.if-not-permits.false in
    let next : ExtraReader = record { extra = c.step.new.self; mode = mode } in
    when_ok (ShowsExtraAt c.step.new.self) ShowsExtra mode next (permits Allowed k) (extra_step x k) permitted (λ y s. s)
    (c.in_ok-self.ensures x (rw c.replace-mode.ensures.value h))
