use Rattle.std.proofs.Common.{[], List, Some}
use Rattle.std.proofs.lemmas.Result.{err_from_is_err_and}
use Rattle.dlk_grammar.specs.declared.token.Infix.TheVariants.{And}
use Rattle.dlk_machine.specs.Machine.{By, Part, Wants}
use Rattle.dlk_reader.specs.Shows.{left_opened, IsOpen, Shows}
use Rattle.dlk_reader.proofs.Agree.{agrees_err}
use Rattle.dlk_reader.proofs.HolderSteps.{formulas_joined_is}
use Rattle.dlk_reader.proofs.stack.Stack.join_formulas.Goals as goal

pub returns-in_err-left : goal.returns-in_err-left
returns-in_err-left c = λ S p h.
    let w = err_from_is_err_and c.from_residual.result c.from_residual.ensures.1 in
    rw (w.1, w.2, formulas_joined_is c.args.goal S p)
    (agrees_err {X = Unit {0}} (λ _ T. IsOpen c.left.new.self T []) (Shows c.left.new.self) c.in_err-left.field-0.0 (left_opened c.args.goal (By And) S p)
    (λ (T : List Part). Some (Wants T)) (c.in_err-left.ensures S p h))
