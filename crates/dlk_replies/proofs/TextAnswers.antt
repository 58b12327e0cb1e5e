-- From a fault of reading to what is answered.
use Rattle.std.proofs.Common.{◌≡◌, sym, subst}
use Rattle.dlk_grammar.specs.Readings.{Literal, Nesting, Syntax, Shape, TooBig, TooDeep}
use Rattle.dlk_grammar.specs.Texts.{TextFault, BadByte, Unread}
use Rattle.dlk_parse.specs.Faults.{IsTextFaultOf}
use Rattle.dlk_parse.specs.declared.fault.ParseFault.TheVariants as parse
use Rattle.dlk_parse.specs.declared.fault.TextFault.{TextFault as FaultOfText}
use Rattle.dlk_parse.specs.declared.fault.TextFault.TheVariants as text_fault
use Rattle.dlk_replies.specs.declared.form.Role.{Role}
use Rattle.dlk_replies.specs.Replies.{Reply}
use Rattle.dlk_replies.specs.Refusals.{text_refused}
use Rattle.dlk_replies.specs.Refused.{IsTextRefused}

module _ (role : Role) (IsFault : TextFault → Type 0) (IsAnswer : Reply → Type 0)
    (answers : (why : TextFault) → IsFault why → IsAnswer (text_refused role why)) where
  by_fault : (why : TextFault) (reply : Reply) → IsFault why → reply ≡ text_refused role why → IsAnswer reply
  by_fault why reply fault is = subst IsAnswer (sym is) (answers why fault)

  pub text_answer : (why : FaultOfText) (reply : Reply) → IsTextFaultOf IsFault why → IsTextRefused role why reply → IsAnswer reply
  text_answer (text_fault.BadByte at) reply fault is = by_fault (BadByte at) reply fault is
  text_answer (text_fault.Unread (parse.Literal at)) reply fault is = by_fault (Unread (Literal at)) reply fault is
  text_answer (text_fault.Unread (parse.Nesting at)) reply fault is = by_fault (Unread (Nesting at)) reply fault is
  text_answer (text_fault.Unread (parse.Syntax at)) reply fault is = by_fault (Unread (Syntax at)) reply fault is
  text_answer (text_fault.Unread (parse.Shape at)) reply fault is = by_fault (Unread (Shape at)) reply fault is
  text_answer (text_fault.Unread (parse.TooBig size)) reply fault is = by_fault (Unread (TooBig size)) reply fault is
  text_answer (text_fault.Unread (parse.TooDeep depth)) reply fault is = by_fault (Unread (TooDeep depth)) reply fault is
  text_answer (text_fault.Unread parse.Memory) reply fault is = absurd is
  text_answer text_fault.Memory reply fault is = absurd is
