use Rattle.std.proofs.Common.{◌∷◌, false, refl, sym, ◌∙◌}
use Rattle.dlk_machine.specs.Machine.{Inside, Assigns}
use Rattle.dlk_reader.proofs.OperandSteps.{gets_star, gets_other, opened}
use Rattle.dlk_reader.proofs.stack.Stack.statement_gets_step.Goals as goal

pub returns-then-star : goal.returns-then-star
returns-then-star c = λ S h.
    rw (gets_star c.args.goal S c.args.name c.args.lexeme (sym c.is_star-star.ensures ∙ c.if-star.true)) (record { mode = c.set.ensures; lists = h })

pub returns : goal.returns
returns c = λ S h.
    let e = Inside (Assigns c.args.name false) in
    rw (gets_other c.args.goal S c.args.name c.args.lexeme (sym c.is_star-star.ensures ∙ c.if-star.false))
    (c.start_operand.ensures.agrees (e ∷ S) (opened S e c.args.self.now (record { parts = c.push.new.self; out = c.args.self.now.out }) h
    c.in_ok-push.ensures.items refl))
