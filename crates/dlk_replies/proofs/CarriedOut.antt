-- Replies that are no refusal of the words, and that write no file where they refuse: so is that to a text that isn't read.
use Rattle.std.proofs.Common.{◌≡◌, ◌<◌, ℕ, List, None, refl, arith}
use Rattle.dlk_grammar.specs.Readings.{Literal, Nesting, Syntax, Shape, TooBig, TooDeep}
use Rattle.dlk_grammar.specs.Texts.{TextFault, BadByte, Unread}
use Rattle.dlk_replies.specs.declared.form.Role.{Role}
use Rattle.dlk_replies.specs.declared.reply.Status.{Status}
use Rattle.dlk_replies.specs.declared.reply.Status.TheVariants.{Refused}
use Rattle.dlk_replies.specs.Replies.{Reply, code_of, printing}
use Rattle.dlk_replies.specs.Refusals.{text_refused}

-- the reply of a command that was carried out
pub record IsCarriedOut (reply : Reply) : Type 0 where
  pub status : code_of reply.status < 3
  pub refusal : code_of reply.status ≡ 2 → reply.written ≡ None

pub printed_only : (status : Status) (bytes : List ℕ) → code_of status < 3 → IsCarriedOut (printing status bytes)
printed_only status bytes less = record { status = less; refusal = λ e. refl }

pub text_carried_out : (role : Role) (why : TextFault) → IsCarriedOut (text_refused role why)
text_carried_out role (BadByte at) = printed_only _ _ (omega arith)
text_carried_out role (Unread (Literal at)) = printed_only _ _ (omega arith)
text_carried_out role (Unread (Nesting at)) = printed_only _ _ (omega arith)
text_carried_out role (Unread (Syntax at)) = printed_only _ _ (omega arith)
text_carried_out role (Unread (Shape at)) = printed_only _ _ (omega arith)
text_carried_out role (Unread (TooBig size)) = printed_only _ _ (omega arith)
text_carried_out role (Unread (TooDeep depth)) = printed_only _ _ (omega arith)

abbrev pub IsRefused : Reply → Type 0
IsRefused reply = reply.status ≡ Refused

pub text_is_refused : (role : Role) (why : TextFault) → IsRefused (text_refused role why)
text_is_refused role (BadByte at) = refl
text_is_refused role (Unread (Literal at)) = refl
text_is_refused role (Unread (Nesting at)) = refl
text_is_refused role (Unread (Syntax at)) = refl
text_is_refused role (Unread (Shape at)) = refl
text_is_refused role (Unread (TooBig size)) = refl
text_is_refused role (Unread (TooDeep depth)) = refl

pub text_unwritten : (role : Role) (why : TextFault) → (text_refused role why).written ≡ None
text_unwritten role (BadByte at) = refl
text_unwritten role (Unread (Literal at)) = refl
text_unwritten role (Unread (Nesting at)) = refl
text_unwritten role (Unread (Syntax at)) = refl
text_unwritten role (Unread (Shape at)) = refl
text_unwritten role (Unread (TooBig size)) = refl
text_unwritten role (Unread (TooDeep depth)) = refl
