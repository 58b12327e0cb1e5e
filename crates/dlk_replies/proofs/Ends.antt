-- From a job's end to its answer.
use Rattle.std.proofs.Common.{◌≡◌, sym, subst, Result, Ok, Err}
use Rattle.std.specs.Prelude.{IfOk, IfErr}
use Rattle.dlk_grammar.specs.Texts.{TextFault}
use Rattle.dlk_parse.specs.Faults.{IsTextFaultOf}
use Rattle.dlk_parse.specs.declared.fault.TextFault.{TextFault as FaultOfText}
use Rattle.dlk_replies.specs.declared.ended.Ended.{Ended}
use Rattle.dlk_replies.specs.declared.ended.Ended.TheVariants.{Refused, Memory}
use Rattle.dlk_replies.specs.declared.fault.NoReply.{NoReply}
use Rattle.dlk_replies.specs.declared.fault.NoReply.TheVariants as none
use Rattle.dlk_replies.specs.declared.form.Role.{Role}
use Rattle.dlk_replies.specs.declared.reply.Reply.{Reply}
use Rattle.dlk_replies.specs.Replies.{Reply as TheReply}
use Rattle.dlk_replies.specs.Refusals.{text_refused}
use Rattle.dlk_replies.specs.Refused.{IsTextRefused}
use Rattle.dlk_replies.specs.Ended.{EndsIn, end_of, answer_of}
use Rattle.dlk_replies.specs.Shown.{reply_of}
use Rattle.dlk_replies.proofs.TextAnswers.{text_answer}

-- an end in some replies is one in more of them
pub ends_weaker : (P Q : TheReply → Type 0) → ((reply : TheReply) → P reply → Q reply) → (end : Ended) → EndsIn P end → EndsIn Q end
ends_weaker P Q weaker (Refused reply) is = weaker (reply_of reply) is
ends_weaker P Q weaker Memory is = tt

-- the end with a refusal
pub ends_so : (P : TheReply → Type 0) (refusal : Result Reply NoReply) (end : Ended) → end ≡ end_of refusal → IfOk refusal (λ r. P (reply_of r)) → EndsIn P end
ends_so P (Ok reply) end is said = subst (EndsIn P) (sym is) said
ends_so P (Err none.Memory) end is said = subst (EndsIn P) (sym is) tt

-- the answer of a job whose early end is an answer, too
pub answers_so : (P : TheReply → Type 0) (job : Result Reply Ended) (answer : Result Reply NoReply) → answer ≡ answer_of job → IfOk job (λ r. P (reply_of r)) →
    IfErr job (EndsIn P) → IfOk answer (λ r. P (reply_of r))
answers_so P (Ok reply) answer is ok early = subst (λ (a : Result Reply NoReply). IfOk a (λ r. P (reply_of r))) (sym is) ok
answers_so P (Err (Refused reply)) answer is ok early = subst (λ (a : Result Reply NoReply). IfOk a (λ r. P (reply_of r))) (sym is) early
answers_so P (Err Memory) answer is ok early = subst (λ (a : Result Reply NoReply). IfOk a (λ r. P (reply_of r))) (sym is) tt

-- the end with an input that is no text of what it is to be
pub text_ends : (role : Role) (IsFault : TextFault → Type 0) (P : TheReply → Type 0) → ((why : TextFault) → IsFault why → P (text_refused role why)) →
    (why : FaultOfText) → IsTextFaultOf IsFault why → (refusal : Result Reply NoReply) → IfOk refusal (λ r. IsTextRefused role why (reply_of r)) →
    (end : Ended) → end ≡ end_of refusal → EndsIn P end
text_ends role IsFault P answers why fault (Ok reply) said end is =
    subst (EndsIn P) (sym is) (text_answer role IsFault P answers why (reply_of reply) fault said)
text_ends role IsFault P answers why fault (Err none.Memory) said end is = subst (EndsIn P) (sym is) tt
