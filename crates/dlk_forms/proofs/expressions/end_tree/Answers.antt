use Rattle.std.proofs.Common.{[], true, false, refl}
use Rattle.dlk_tree.specs.declared.op.Sort.TheVariants.{Term}
use Rattle.dlk_grammar.specs.Phrases.{Variable}
use Rattle.dlk_machine.specs.Machine.{Is, Bare, Done, Has}
use Rattle.dlk_forms.proofs.Steps.{expression_name, expression_prime}
use Rattle.dlk_forms.proofs.expressions.end_tree.Goals as goal

pub returns-in-FirstName-clause-expression : goal.returns-in-FirstName-clause-expression
returns-in-FirstName-clause-expression c = λ x h.
    let s = expression_name c.args.stack.now c.in-FirstName.at c.in-FirstName.name c.args.place x c.in-FirstName.is h in
    rw s.0 (c.end_either.ensures (Has [] (Is Term (Variable c.in-FirstName.name false) (Bare c.in-FirstName.at c.in-FirstName.name)))
    (record { mode = refl; lone = refl; lists = s.1 }))

pub returns-in_ok-mode-in-FirstPrime-clause-expression : goal.returns-in_ok-mode-in-FirstPrime-clause-expression
returns-in_ok-mode-in-FirstPrime-clause-expression c = λ x h.
    let s = expression_prime c.args.stack.now c.in-FirstPrime.name c.args.place x c.in-FirstPrime.is h in
    rw s.0 (c.end_either-in-FirstPrime.ensures (Has [] (Is Term (Variable c.in-FirstPrime.name true) Done)) (c.in_ok-mode-in-FirstPrime.ensures s.1))
