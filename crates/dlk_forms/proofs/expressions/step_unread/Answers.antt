use Rattle.std.proofs.Common.{[], refl}
use Rattle.dlk_machine.specs.Machine.{Wants}
use Rattle.dlk_forms.proofs.Steps.{unread_query, unread_brace, unread_other}
use Rattle.dlk_forms.proofs.expressions.step_unread.Goals as goal

pub returns-in-Query : goal.returns-in-Query
returns-in-Query c = λ h. rw (unread_query c.args.lexeme c.in-Query.is) (c.step_program.ensures (Wants []) (record { mode = refl; lists = h }))

pub returns-in-OpenBrace : goal.returns-in-OpenBrace
returns-in-OpenBrace c = λ h. rw (unread_brace c.args.lexeme c.in-OpenBrace.field-0 c.in-OpenBrace.is)
    (c.step_program-in-OpenBrace.ensures (Wants []) (record { mode = refl; lists = h }))

pub returns-in_default : goal.returns-in_default
returns-in_default c = λ h. rw (unread_other c.args.lexeme c.in_default.not-Name c.in_default.not-OpenBrace c.in_default.not-Query)
    (c.step_either.ensures (Wants []) (record { mode = refl; lists = h }))
