use Rattle.std.proofs.Common.{[], List, Some}
use Rattle.std.proofs.lemmas.Result.{err_from_is_err_and}
use Rattle.dlk_machine.specs.Machine.{By, Part, Wants, after_operand}
use Rattle.dlk_reader.specs.Shows.{IsOpen, Shows}
use Rattle.dlk_reader.proofs.Agree.{agrees_err}
use Rattle.dlk_reader.proofs.OperandSteps.{infix_other}
use Rattle.dlk_reader.proofs.stack.Stack.infix_after.Goals as goal

pub returns-in_err-after_operand : goal.returns-in_err-after_operand
returns-in_err-after_operand c = λ S p h.
    let w = err_from_is_err_and c.from_residual.result c.from_residual.ensures.1 in
    rw (w.1, w.2, infix_other c.args.goal c.args.operator S p c.in_default.not-And)
    (agrees_err {X = Unit {0}} (λ _ T. IsOpen c.after_operand.new.self T []) (Shows c.after_operand.new.self) c.in_err-after_operand.field-0.0
    (after_operand c.args.goal (By c.args.operator) S p) (λ (T : List Part). Some (Wants T)) (c.in_err-after_operand.ensures S p h))
