use Rattle.std.proofs.Common.{◌≡◌, ap, ◌∙◌}
use Rattle.std.proofs.lemmas.Result.{err_from_is_err_and}
use Rattle.dlk_grammar.specs.Phrases.{Except, Flow, add}
use Rattle.dlk_machine.specs.Machine.{item_bar_name_step}
use Rattle.dlk_reader.specs.declared.parts.Equations.{Equations}
use Rattle.dlk_reader.specs.declared.parts.Mode.TheVariants as mode
use Rattle.dlk_reader.specs.Shows.{seen, equations_of, Shows}
use Rattle.dlk_reader.proofs.Agree.{agrees_memory}
use Rattle.dlk_reader.proofs.items.item_bar_name_step.Goals as goal

pub returns-in_err-add_constant-in-BarBrace : goal.returns-in_err-add_constant-in-BarBrace
returns-in_err-add_constant-in-BarBrace c = λ k S n l e h.
    let w = err_from_is_err_and c.from_residual.result c.from_residual.ensures.1 in
    rw (w.1, w.2) (agrees_memory (λ (x : Equations) m. x ≡ equations_of n m) (Shows k) c.in_err-add_constant-in-BarBrace.field-0.0
    (add l (Flow c.args.name (Except c.args.taboo))) (item_bar_name_step S n l c.args.name c.args.taboo (seen c.args.lexeme))
    (c.in_err-add_constant-in-BarBrace.ensures n l e))

pub returns-in_ok-add_constant-in-BarBrace : goal.returns-in_ok-add_constant-in-BarBrace
returns-in_ok-add_constant-in-BarBrace c = λ k S n l e h.
    rw c.in-BarBrace.is (record { mode = c.set.ensures ∙ ap mode.ItemEnds (c.in_ok-add_constant-in-BarBrace.ensures n l e); lists = h })
