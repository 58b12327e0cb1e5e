use Rattle.std.proofs.Common.{[], refl}
use Rattle.dlk_grammar.specs.Phrases.{none}
use Rattle.dlk_machine.specs.Machine.{Wants}
use Rattle.dlk_forms.proofs.Steps.{fresh_other, reading_other}
use Rattle.dlk_forms.proofs.SideSteps.{inside_shown, between_shown}
use Rattle.dlk_forms.proofs.sides.SidesSoFar.step.Goals as goal

pub returns-in_default-mode : goal.returns-in_default-mode
returns-in_default-mode c = λ x h.
    let s = between_shown c.args.self.now c.args.mode x c.in_default-mode.is h in
    rw (s.1, fresh_other s.0 c.args.lexeme c.in_default.not-Turnstile)
    (c.step_inner.ensures s.0 none (Wants []) (record { side = s.2.side; shows = record { mode = refl; lists = s.2.lists } }))

pub returns : goal.returns
returns c = λ x h.
    let s = inside_shown c.args.self.now c.args.mode c.in-Some.mode x c.in-Some.is h in
    rw (s.3, reading_other s.0 s.1 s.2 c.args.lexeme c.in_default.not-Turnstile c.in_default-lexeme.not-Comma) (c.step_inner-2.ensures s.0 s.1 s.2 s.4)
