use Rattle.std.proofs.Common.{◌∷◌, refl}
use Rattle.dlk_grammar.specs.Phrases.{none}
use Rattle.dlk_machine.specs.Machine.{Inside, Args}
use Rattle.dlk_reader.proofs.OperandSteps.{call_other, opened}
use Rattle.dlk_reader.proofs.stack.Stack.call_step.Goals as goal

pub returns : goal.returns
returns c = λ S h.
    let e = Inside (Args c.args.at c.args.name none) in
    rw (call_other c.args.goal S c.args.at c.args.name c.args.lexeme c.in_default.not-Close)
    (c.start_operand.ensures.agrees (e ∷ S) (opened S e c.args.self.now
    (record { parts = c.push.new.self; out = c.args.self.now.out }) h c.in_ok-push.ensures.items refl))
