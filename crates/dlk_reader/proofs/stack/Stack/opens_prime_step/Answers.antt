use Rattle.std.proofs.Common.{◌≡◌}
use Rattle.std.proofs.lemmas.Result.{err_from_is_err_and}
use Rattle.dlk_grammar.specs.Phrases.{no_items}
use Rattle.dlk_machine.specs.Machine.{opens_prime_step}
use Rattle.dlk_reader.specs.declared.parts.Equations.{Equations}
use Rattle.dlk_reader.specs.Shows.{seen, equations_of, Shows}
use Rattle.dlk_reader.proofs.Agree.{agrees_memory}
use Rattle.dlk_reader.proofs.ItemSteps.{opens_prime_other}
use Rattle.dlk_reader.proofs.stack.Stack.opens_prime_step.Goals as goal

pub returns-in_err-equations-in_default : goal.returns-in_err-equations-in_default
returns-in_err-equations-in_default c = λ S h.
    let f = c.in_err-equations-in_default in
    let r = c.from_residual-in_err-equations-in_default in
    let w = err_from_is_err_and r.result r.ensures.1 in
    rw (w.1, w.2) (agrees_memory (λ (e x : Equations). e ≡ x) (Shows c.args.self.now) f.field-0.0 (equations_of c.args.at no_items)
    (opens_prime_step S c.args.at c.args.name (seen c.args.lexeme)) f.ensures)

pub returns-in_ok-equations-in_default : goal.returns-in_ok-equations-in_default
returns-in_ok-equations-in_default c = λ S h.
    rw (opens_prime_other S c.args.at c.args.name c.args.lexeme c.in_default.not-Gets)
    (c.item_prime_step.ensures.agrees S c.args.at no_items c.in_ok-equations-in_default.ensures h)
