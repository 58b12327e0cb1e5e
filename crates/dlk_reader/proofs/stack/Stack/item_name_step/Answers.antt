use Rattle.std.proofs.Common.{◌≡◌}
use Rattle.std.proofs.lemmas.Result.{err_from_is_err_and}
use Rattle.dlk_grammar.specs.Phrases.{Everywhere, Flow, add}
use Rattle.dlk_machine.specs.Machine.{item_name_step}
use Rattle.dlk_reader.specs.declared.parts.Equations.{Equations}
use Rattle.dlk_reader.specs.Shows.{seen, equations_of, Shows}
use Rattle.dlk_reader.proofs.Agree.{agrees_memory}
use Rattle.dlk_reader.proofs.ItemSteps.{item_name_other}
use Rattle.dlk_reader.proofs.stack.Stack.item_name_step.Goals as goal

pub returns-in_err-equations-in_default : goal.returns-in_err-equations-in_default
returns-in_err-equations-in_default c = λ S n l e h.
    let w = err_from_is_err_and c.from_residual.result c.from_residual.ensures.1 in
    rw (w.1, w.2) (agrees_memory (λ (x : Equations) m. x ≡ equations_of n m) (Shows c.args.self.now) c.in_err-equations-in_default.field-0.0
    (add l (Flow c.args.name Everywhere)) (item_name_step S n l c.args.name (seen c.args.lexeme)) (c.in_err-equations-in_default.ensures n l e))

pub returns-in_ok-equations-in_default : goal.returns-in_ok-equations-in_default
returns-in_ok-equations-in_default c = λ S n l e h.
    rw (item_name_other S n l c.args.name c.args.lexeme c.in_default.not-Prime c.in_default.not-BraceBar)
    (c.items_step.ensures S n (add l (Flow c.args.name Everywhere)) (c.in_ok-equations-in_default.ensures n l e) h)
