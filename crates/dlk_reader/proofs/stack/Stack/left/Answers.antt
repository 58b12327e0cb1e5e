use Rattle.std.proofs.Common.{◌≡◌, [], ◌∷◌, ◌++◌, Some, sym, ap, ◌∙◌}
use Rattle.dlk_machine.specs.Machine.{as_sort, fits, operand_sort}
use Rattle.dlk_reader.specs.Shows.{said, stack_code, Writes}
use Rattle.dlk_reader.specs.declared.parts.Part.TheVariants as part
use Rattle.dlk_reader.proofs.Agree.{agrees_ok}
use Rattle.dlk_reader.proofs.OperandSteps.{left_done}
use Rattle.dlk_reader.proofs.stack.Stack.left.Goals as goal

pub returns : goal.returns
returns c = λ S p h.
    let w = agrees_ok {X = Unit {0}} (λ _ t. Writes c.settle.new.out.items (stack_code S) t) tt (as_sort c.operand_sort.result p)
    (c.in_ok-settle.ensures p (stack_code S) h.last h.lists.out) in
    let e : as_sort (operand_sort (said c.args.between)) p ≡ Some w.0 = rw (← c.operand_sort.ensures) w.1 in
    left_done c.args.goal c.args.between S p w.0 (record { parts = c.push.new.self; out = c.settle.new.out }) e
    (sym (ap (λ s. fits c.args.goal s S) c.result_sort.ensures) ∙ sym (c.fits.ensures S h.lists.parts) ∙ c.if-not-fits.false)
    (c.in_ok-push.ensures.items ∙ ap (λ l. l ++ part.Left c.args.between ∷ []) h.lists.parts) w.2.out
