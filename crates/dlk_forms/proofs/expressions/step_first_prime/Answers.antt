use Rattle.std.proofs.Common.{[], true, refl}
use Rattle.dlk_tree.specs.declared.op.Sort.TheVariants.{Term}
use Rattle.dlk_grammar.specs.Phrases.{Variable}
use Rattle.dlk_machine.specs.Machine.{Is, Done, Has, StartsPrime}
use Rattle.dlk_forms.proofs.Steps.{first_prime_gets, first_prime_other}
use Rattle.dlk_forms.proofs.expressions.step_first_prime.Goals as goal

pub returns-in-Gets : goal.returns-in-Gets
returns-in-Gets c = λ h. rw (first_prime_gets c.args.name c.args.lexeme c.in-Gets.is)
    (c.step_program.ensures (StartsPrime [] c.args.name) (record { mode = refl; lists = h }))

pub returns : goal.returns
returns c = λ h. rw (first_prime_other c.args.name c.args.lexeme c.in_default.not-Gets)
    (c.step_either.ensures (Has [] (Is Term (Variable c.args.name true) Done)) (c.in_ok-mode.ensures h))
