use Rattle.std.proofs.Common.{[], false, refl}
use Rattle.dlk_tree.specs.declared.op.Sort.TheVariants.{Term}
use Rattle.dlk_grammar.specs.Phrases.{Variable}
use Rattle.dlk_machine.specs.Machine.{Is, Bare, Has, Starts}
use Rattle.dlk_forms.proofs.Steps.{first_name_semi, first_name_gets, first_name_other}
use Rattle.dlk_forms.proofs.expressions.step_first_name.Goals as goal

pub returns-in-Semi : goal.returns-in-Semi
returns-in-Semi c = λ h. rw (first_name_semi c.args.at c.args.name c.args.lexeme c.in-Semi.is)
    (c.step_program.ensures (Starts [] c.args.name) (record { mode = refl; lists = h }))

pub returns-in-Gets : goal.returns-in-Gets
returns-in-Gets c = λ h. rw (first_name_gets c.args.at c.args.name c.args.lexeme c.in-Gets.is)
    (c.step_program-in-Gets.ensures (Starts [] c.args.name) (record { mode = refl; lists = h }))

pub returns-in_default : goal.returns-in_default
returns-in_default c = λ h.
    rw (first_name_other c.args.at c.args.name c.args.lexeme c.in_default.not-Prime c.in_default.not-Gets c.in_default.not-Semi)
    (c.step_either.ensures (Has [] (Is Term (Variable c.args.name false) (Bare c.args.at c.args.name)))
    (record { mode = refl; lone = refl; lists = h }))
