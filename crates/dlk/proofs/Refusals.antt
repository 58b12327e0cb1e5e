-- Replies that refuse.
use Rattle.std.proofs.Common.{◌≡◌, ℕ, List, get_or, refl}
use Rattle.dlk_grammar.specs.Readings.{Literal, Nesting, Syntax, Shape, TooBig, TooDeep}
use Rattle.dlk_grammar.specs.Texts.{TextFault, BadByte, Unread}
use Rattle.dlk_tacsyn.specs.Faults.{Fault, Syntax as Syntax', Nesting as Nesting', Repeat, UnknownAtom, Arguments}
use Rattle.dlk_replies.specs.declared.form.Role.{Role}
use Rattle.dlk_replies.specs.declared.form.Role.TheVariants.{Model}
use Rattle.dlk_replies.specs.Replies.{Reply, code_of}
use Rattle.dlk_replies.specs.Refusals.{text_refused}
use Rattle.dlk_jobs_check.specs.Terms.{RefusesTerm, bad_model, bad_line, bad_conclusion}
use Rattle.dlk_jobs_prove.specs.Proves.{strategy_refused}

-- a reply with status 2, which prints a line that begins as `refused` does
pub record IsRefusal (reply : Reply) : Type 0 where
  pub two : code_of reply.status ≡ 2
  pub begins : get_or reply.printed 0 0 ≡ 114

pub text_refusal : (role : Role) (why : TextFault) → IsRefusal (text_refused role why)
text_refusal role (BadByte at) = record { two = refl; begins = refl }
text_refusal role (Unread (Literal at)) = record { two = refl; begins = refl }
text_refusal role (Unread (Nesting at)) = record { two = refl; begins = refl }
text_refusal role (Unread (Syntax at)) = record { two = refl; begins = refl }
text_refusal role (Unread (Shape at)) = record { two = refl; begins = refl }
text_refusal role (Unread (TooBig size)) = record { two = refl; begins = refl }
text_refusal role (Unread (TooDeep depth)) = record { two = refl; begins = refl }

pub strategy_refusal : (why : Fault) → IsRefusal (strategy_refused why)
strategy_refusal (Syntax' at) = record { two = refl; begins = refl }
strategy_refusal (Nesting' at) = record { two = refl; begins = refl }
strategy_refusal (Repeat at) = record { two = refl; begins = refl }
strategy_refusal (UnknownAtom at) = record { two = refl; begins = refl }
strategy_refusal (Arguments at) = record { two = refl; begins = refl }

pub term_refusal : (model term : List ℕ) (reply : Reply) → RefusesTerm model term reply → IsRefusal reply
term_refusal model term _ (bad_model why fault) = text_refusal Model why
term_refusal model term _ (bad_line f t n why v) = record { two = refl; begins = refl }
term_refusal model term _ (bad_conclusion f t rows p a ne) = record { two = refl; begins = refl }
