-- `guard` answers what `check` does, behind a line of its own where the term is accepted.
use Rattle.std.proofs.Common.{◌≡◌, ◌≢◌, ℕ, Bool, true, false, List, length, refl, ap, ◌∙◌}
use Rattle.dlk_report.specs.Reports.{is_closed}
use Rattle.dlk_replies.specs.declared.form.Role.TheVariants.{Model}
use Rattle.dlk_replies.specs.declared.reply.Layout.TheVariants.{Text}
use Rattle.dlk_replies.specs.declared.reply.Showing.TheVariants.{Reported}
use Rattle.dlk_replies.specs.declared.reply.Status.TheVariants.{Refused}
use Rattle.dlk_replies.specs.Replies.{Reply}
use Rattle.dlk_replies.proofs.CarriedOut.{text_is_refused}
use Rattle.dlk_jobs_check.specs.Terms.{RefusesTerm, bad_model, bad_line, bad_conclusion}
use Rattle.dlk_jobs_check.specs.Checks.{Checks, refuses, reports, reported, status_of}
use Rattle.dlk_jobs_check.specs.Guards.{Guards, refuses as refuses_term, guards, GuardSays, with_line_first}
use Rattle.dlk_jobs_check.proofs.OneReply.{one_check}

-- a refusal of a term has the status of one
pub term_is_refused : (model term : List ℕ) (reply : Reply) → RefusesTerm model term reply → reply.status ≡ Refused
term_is_refused model term _ (bad_model why fault) = text_is_refused Model why
term_is_refused model term _ (bad_line f reads n why v) = refl
term_is_refused model term _ (bad_conclusion f reads rows p a ne) = refl

not_refused : (b : Bool) → status_of b ≢ Refused
not_refused true = λ e. absurd cc
not_refused false = λ e. absurd cc

module _ (model term : List ℕ) where
  same_reply : (r s : Reply) → Checks (Reported Text) model term r → Checks (Reported Text) model term s → r ≡ s
  same_reply = one_check (Reported Text) model term

  same_status : (r s : Reply) → Checks (Reported Text) model term r → Checks (Reported Text) model term s → r.status ≡ s.status
  same_status r s a b = ap (λ (x : Reply). x.status) (same_reply r s a b)

  pub refused_alike : (reply checked : Reply) → Guards model term reply → Checks (Reported Text) model term checked →
      checked.status ≡ Refused → reply ≡ checked
  refused_alike _ checked (refuses_term r a) b two = same_reply r checked (refuses r a) b
  refused_alike _ checked (guards steps rows p t said says) b two =
      absurd (not_refused (is_closed p.goals) (same_status (reported Text p (length rows)) checked (reports steps rows p t) b ∙ two))

  pub reported_behind : (reply checked : Reply) → Guards model term reply → Checks (Reported Text) model term checked → checked.status ≢ Refused →
      (said : List ℕ) × GuardSays term said × (reply ≡ with_line_first said checked)
  reported_behind _ checked (refuses_term r a) b not_two = absurd (not_two (same_status checked r b (refuses r a) ∙ term_is_refused model term r a))
  reported_behind _ checked (guards steps rows p t said says) b not_two =
      (said, says, ap (with_line_first said) (same_reply (reported Text p (length rows)) checked (reports steps rows p t) b))
