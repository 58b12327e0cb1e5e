-- What a command answers is no refusal of its words, and a refusal writes no file.
use Rattle.std.proofs.Common.{ℕ, List, [], ◌∷◌, arith}
use Rattle.dlk_grammar.specs.Tokens.{value}
use Rattle.dlk_replies.specs.declared.command.Command.{Command}
use Rattle.dlk_replies.specs.declared.command.Command.TheVariants.{Check, Print, Vars, Subst, Report, Smt, Guard, Prove, Gen, Convert, Link, Trim, Session}
use Rattle.dlk_replies.specs.declared.reply.Showing.TheVariants.{Reported, Exported}
use Rattle.dlk_replies.specs.declared.reply.Layout.TheVariants.{Text, Json}
use Rattle.dlk_replies.specs.Forms.{Word}
use Rattle.dlk_replies.specs.Replies.{Reply}
use Rattle.dlk_elab.specs.Outcomes.{main_goals}
use Rattle.dlk_report.specs.Reports.{is_closed}
use Rattle.dlk_replies.specs.declared.form.Role.TheVariants.{Model}
use Rattle.dlk_replies.proofs.CarriedOut.{IsCarriedOut, printed_only, text_carried_out}
use Rattle.dlk_jobs_text.proofs.CarriedOut.{print_carried_out, list_carried_out, substitute_carried_out}
use Rattle.dlk_jobs_check.proofs.CarriedOut.{closed_or_open, check_carried_out, guard_carried_out}
use Rattle.dlk_jobs_prove.proofs.CarriedOut.{prove_carried_out, generate_carried_out}
use Rattle.dlk_jobs_terms.proofs.CarriedOut.{convert_carried_out, link_carried_out, trim_carried_out}
use Rattle.dlk_jobs_record.proofs.CarriedOut.{no_refusal}
use Rattle.dlk_jobs_session.specs.Sessions.{Sessions, bad_model, bad_line, too_long, keeps_none, writes}
use Rattle.dlk_answers.specs.Answers.{Does, Responds, refuses, does}

session_carried_out : (model script : List ℕ) (reply : Reply) → Sessions model script reply → IsCarriedOut reply
session_carried_out model script _ (bad_model why fault) = text_carried_out Model why
session_carried_out model script _ (bad_line f reads n wrong) = printed_only _ _ (omega arith)
session_carried_out model script _ (too_long answers last plays steps saved long) = printed_only _ _ (omega arith)
session_carried_out model script _ (keeps_none answers last plays none) = printed_only _ _ (closed_or_open (is_closed (main_goals last.rows)))
session_carried_out model script _ (writes answers last plays steps saved short) = record {
  status = closed_or_open (is_closed (main_goals last.rows));
  refusal = λ e. absurd (no_refusal (is_closed (main_goals last.rows)) e);
}

job_carried_out : (command : Command) (others : List Word) (texts : List (List ℕ)) (reply : Reply) → Does command others texts reply → IsCarriedOut reply
job_carried_out Check [] (model ∷ term ∷ []) reply h = check_carried_out (Reported Text) model term reply h
job_carried_out Print [] (file ∷ []) reply h = print_carried_out file reply h
job_carried_out Vars [] (file ∷ []) reply h = list_carried_out file reply h
job_carried_out Subst [] (file ∷ substitution ∷ []) reply h = substitute_carried_out file substitution reply h
job_carried_out Report [] (model ∷ term ∷ []) reply h = check_carried_out (Reported Json) model term reply h
job_carried_out Smt [] (model ∷ term ∷ []) reply h = check_carried_out Exported model term reply h
job_carried_out Guard [] (model ∷ term ∷ []) reply h = guard_carried_out model term reply h
job_carried_out Prove (term ∷ []) (model ∷ strategy ∷ []) reply h = prove_carried_out model strategy reply h
job_carried_out Gen (word ∷ []) [] reply h = generate_carried_out (value word) reply h
job_carried_out Convert (out ∷ []) (term ∷ []) reply h = convert_carried_out term reply h
job_carried_out Link (out ∷ []) (model ∷ term ∷ lemma ∷ []) reply h = link_carried_out model term lemma reply h
job_carried_out Trim (out ∷ []) (model ∷ term ∷ []) reply h = trim_carried_out model term reply h
job_carried_out Session (term ∷ []) (model ∷ script ∷ []) reply h = session_carried_out model script reply h
job_carried_out _ _ _ reply h = absurd h

pub carried_out : (command : Command) (words : List Word) (texts : List (List ℕ)) (reply : Reply) → Responds command words texts reply → IsCarriedOut reply
carried_out command words texts reply (refuses name long) = printed_only _ _ (omega arith)
carried_out command words texts reply (does short r h) = job_carried_out command _ texts r h
