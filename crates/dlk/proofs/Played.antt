-- What `session` has printed and written.
use Rattle.std.proofs.Common.{◌≡◌, ◌↔◌, ◌<◌, ◌≤◌, ℕ, List, [], ◌∷◌, length, Option, Some, None, refl, sym, subst, ◌∙◌, arith}
use Rattle.dlk_calculus.specs.Steps.{Step}
use Rattle.dlk_desk.specs.Outside.{Outside, SameFiles}
use Rattle.dlk_elab.specs.Outcomes.{main_goals}
use Rattle.dlk_recorder.specs.Terms.{term_text}
use Rattle.dlk_report.specs.Reports.{is_closed}
use Rattle.dlk_replies.specs.declared.command.Command.TheVariants.{Session}
use Rattle.dlk_replies.specs.declared.form.Role.TheVariants.{Model, Script}
use Rattle.dlk_replies.specs.declared.reply.Layout.TheVariants.{Text}
use Rattle.dlk_replies.specs.Forms.{Word, others_of, limit_of}
use Rattle.dlk_replies.specs.Inputs.{output}
use Rattle.dlk_replies.specs.Replies.{Reply, code_of}
use Rattle.dlk_session.specs.Sessions.{State}
use Rattle.dlk_jobs_check.specs.Checks.{status_of, reported}
use Rattle.dlk_jobs_session.specs.Saved.{IsChecked}
use Rattle.dlk_jobs_session.specs.Sessions.{played, Sessions, bad_model, bad_line, too_long, keeps_none, writes}
use Rattle.dlk_answers.specs.Answers.{Does}
use Rattle.dlk_answers.proofs.OneReply.{none_or_some}
use Rattle.dlk.specs.Outputs.{Output, output_with, after}
use Rattle.dlk.specs.Runs.{GivesWhole}
use Rattle.dlk.specs.Headline.{IsAccepted}
use Rattle.dlk.specs.Sessions.{IsSaved, IsSession, SessionsTruly}
use Rattle.dlk.proofs.Refusals.{text_refusal}
use Rattle.dlk.proofs.Done.{response, is_done}
use Rattle.dlk.proofs.Short.{model_within}
use Rattle.dlk.proofs.Judged.{closed_or_open, closed_is_zero}
use Rattle.dlk.proofs.Writing.{file_is}
use Rattle.dlk.proofs.Written.{few_given, says_given}

abbrev pub SavedIsChecked : Type 0
SavedIsChecked = (model script term : List ℕ) (reply : Reply) → Sessions model script reply → reply.written ≡ Some term → IsChecked model script term

does_session : (others : List Word) (model script : List ℕ) (reply : Reply) → Does Session others (model ∷ script ∷ []) reply → Sessions model script reply
does_session (term ∷ []) model script reply job = job
does_session _ model script reply job = absurd job

nothing_to : (name : Option Word) → output_with name None ≡ None
nothing_to None = refl
nothing_to (Some name) = refl

-- `check` accepts what is saved
checked_is_accepted : {model script term : List ℕ} → length model ≤ limit_of Model → (c : IsChecked model script term) →
    IsAccepted model term (code_of (reported Text c.last (length c.rows)).status) (reported Text c.last (length c.rows)).printed
checked_is_accepted within c =
    record { model_short = within; short = c.short; reply = reported Text c.last (length c.rows); checks = c.checked; status_is = refl; said_is = refl }

module _ (law : SavedIsChecked) (model script : List ℕ) (words : List Word) (old new : Outside) where
  closed_by : (status : ℕ) (last : State) → status ≡ code_of (status_of (is_closed (main_goals last.rows))) → (status ≡ 0) ↔ (main_goals last.rows ≡ [])
  closed_by status last is = subst (λ (n : ℕ). (n ≡ 0) ↔ (main_goals last.rows ≡ [])) (sym is) (closed_is_zero (main_goals last.rows))

  session_of : length model ≤ limit_of Model → (reply : Reply) → Sessions model script reply → code_of reply.status < 2 →
      (status : ℕ) → GivesWhole words status old new reply → IsSession words old new model script status reply.printed
  session_of within _ (bad_model why fault) few status gives = absurd (omega (arith, few, (text_refusal Model why).two))
  session_of within _ (bad_line f reads n wrong) few status gives = absurd (omega (arith, few))
  session_of within _ (too_long answers last plays steps saved long) few status gives = absurd (omega (arith, few))
  session_of within _ (keeps_none answers last plays none) few status gives = record {
    answers = answers;
    last = last;
    plays = plays;
    printed = refl;
    closed = closed_by status last gives.status_is;
    saved = λ steps name is named. absurd (none_or_some (sym none ∙ is));
    unsaved = λ _. subst (λ (o : Option Output). SameFiles (after o old.files) new.files) (nothing_to (output words)) gives.files;
  }
  session_of within _ (writes answers last plays steps saved short) few status gives =
      let reply = played answers last (Some (term_text steps)) in
      let c = law model script (term_text steps) reply (writes answers last plays steps saved short) refl in
      let here = checked_is_accepted within c in
      record {
        answers = answers;
        last = last;
        plays = plays;
        printed = refl;
        closed = closed_by status last gives.status_is;
        saved = λ others name is named.
            let same : steps ≡ others = let e : Some steps ≡ Some others = sym saved ∙ is in cc in
            subst (λ (l : List Step). IsSaved model l (new.files name)) same
            (record {
              written = file_is words old.files new.files reply name (term_text steps) named refl gives.files;
              status = code_of (reported Text c.last (length c.rows)).status;
              report = (reported Text c.last (length c.rows)).printed;
              accepted = here;
              is_proof = closed_or_open (is_closed c.last.goals);
            });
        unsaved = λ none. absurd (none_or_some (sym none ∙ saved));
      }

pub whole_session : SavedIsChecked → (words : List Word) (status : ℕ) (old new : Outside) (reply : Reply) → GivesWhole words status old new reply →
    SessionsTruly words status old new
whole_session law words status old new reply gives model script said form there less says =
    let few = few_given gives less in
    let texts = model ∷ script ∷ [] in
    let answer = response words old.files Session texts reply gives.answer form there in
    let within = model_within Session (Script ∷ []) words old.files model (script ∷ []) reply gives.answer refl form there few in
    let job = does_session (others_of Session words) model script reply (is_done Session words texts reply answer few) in
    subst (λ (x : List ℕ). IsSession words old new model script status x) (says_given gives says)
    (session_of law model script words old new within reply job few status gives)
