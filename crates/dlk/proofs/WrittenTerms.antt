-- What `convert`, `link` and `trim` have written.
use Rattle.std.proofs.Common.{◌≡◌, ◌↔◌, ◌<◌, ℕ, List, [], ◌∷◌, Some, refl, sym, ap, subst, arith}
use Rattle.dlk_calculus.specs.Provables.{Provable}
use Rattle.dlk_calculus.specs.Steps.{Step}
use Rattle.dlk_calculus.proofs.Leaves.{Derives-leaves}
use Rattle.dlk_desk.specs.Outside.{Outside}
use Rattle.dlk_recorder.specs.Terms.{term_text}
use Rattle.dlk_report.specs.Reports.{is_closed}
use Rattle.dlk_replies.specs.declared.command.Command.TheVariants.{Convert, Link, Trim}
use Rattle.dlk_replies.specs.declared.form.Role.TheVariants.{Term, Lemma}
use Rattle.dlk_replies.specs.Forms.{Word, others_of}
use Rattle.dlk_replies.specs.Replies.{Reply, code_of}
use Rattle.dlk_jobs_check.specs.Terms.{Accepts}
use Rattle.dlk_jobs_check.specs.Checks.{status_of}
use Rattle.dlk_jobs_check.proofs.OneTerm.{one_end}
use Rattle.dlk_jobs_record.specs.Records.{Records, too_long, writes, IsWritten}
use Rattle.dlk_jobs_terms.specs.Converts.{Converts, bad_line, records as conversion, IsConverted as IsConvertedBy}
use Rattle.dlk_jobs_terms.specs.Links.{Links, IsJoined}
use Rattle.dlk_jobs_terms.specs.Trims.{Trims, IsTrimmed as IsTrimmedBy}
use Rattle.dlk_answers.specs.Answers.{Does}
use Rattle.dlk.specs.Runs.{GivesWhole}
use Rattle.dlk.specs.WrittenTerms.{IsConverted, ConvertsTruly, LinksTruly, TrimsTruly}
use Rattle.dlk.proofs.Done.{response, is_done}
use Rattle.dlk.proofs.Truly.{accepted_derived}
use Rattle.dlk.proofs.Judged.{closed_is_zero}
use Rattle.dlk.proofs.Writing.{EachIsChecked, converted_or_refused, linked_or_refused, trimmed_or_refused, linked_writes, trimmed_writes, writes_this}
use Rattle.dlk.proofs.Written.{few_given, says_given, whole_accepted}

-- what is recorded is the term file of the steps
recorded_text : {steps : List Step} {p : Provable} {reply : Reply} {out : List ℕ} → Records steps p reply → reply.written ≡ Some out → out ≡ term_text steps
recorded_text (too_long long) written = absurd cc
recorded_text (writes short) written = cc

-- a written term is accepted with the rows of the term that it is written of
same_rows : {term out : List ℕ} {rows others : List Provable} {p q : Provable} {reply : Reply} → Accepts term rows p → Accepts term others q →
    IsWritten out others q reply →
    IsWritten out rows p reply
same_rows {term} {out} {rows} {others} {p} {q} {reply} a b w =
    let end = one_end b a in
    subst (λ (rs : List Provable). IsWritten out rs p reply) end.rows_are (subst (λ (r : Provable). IsWritten out others r reply) end.last_is w)

abbrev pub ConvertedIsAccepted : Type 0
ConvertedIsAccepted = (term written : List ℕ) (reply : Reply) → Converts term reply → reply.written ≡ Some written → IsConvertedBy term written reply

converted : ConvertedIsAccepted → (term out : List ℕ) (reply : Reply) → Converts term reply → reply.written ≡ Some out → code_of reply.status < 2 →
    IsConverted term out (code_of reply.status) reply.printed
converted law term out _ (bad_line n why v) written less = absurd (omega (arith, less))
converted law term out _ (conversion steps rows p t reply is) written less =
    let by = law term out reply (conversion steps rows p t reply is) written in
    let w = same_rows t.accepts by.accepts by.is_written in
    let derives = accepted_derived term rows p t.accepts in
    let status : code_of reply.status ≡ code_of (status_of (is_closed p.goals)) = ap (λ (r : Reply). code_of r.status) w.report in
    record {
      steps = steps;
      rows = rows;
      proof = p;
      of_term = t;
      of_out = w.accepts;
      text = recorded_text is written;
      short = w.short;
      derived = derives;
      closed = subst (λ (n : ℕ). (n ≡ 0) ↔ (p.goals ≡ [])) (sym status) (closed_is_zero p.goals);
      leaves = Derives-leaves p derives;
      report = ap (λ (r : Reply). r.printed) w.report;
    }

does_convert : (others : List Word) (term : List ℕ) (reply : Reply) → Does Convert others (term ∷ []) reply → Converts term reply
does_convert (out ∷ []) term reply job = job
does_convert _ term reply job = absurd job

pub whole_converts : ConvertedIsAccepted → (words : List Word) (status : ℕ) (old new : Outside) (reply : Reply) → GivesWhole words status old new reply →
    ConvertsTruly words status old new
whole_converts law words status old new reply gives term out said form there less says =
    let few = few_given gives less in
    let answer = response words old.files Convert (term ∷ []) reply gives.answer form there.texts_are in
    let job = does_convert (others_of Convert words) term reply (is_done Convert words (term ∷ []) reply answer few) in
    let written = writes_this reply (converted_or_refused term reply job) few words old new (term ∷ []) out there gives.files in
    subst (λ (n : ℕ). IsConverted term out n said) (sym gives.status_is)
    (subst (λ (x : List ℕ). IsConverted term out (code_of reply.status) x) (says_given gives says) (converted law term out reply job written few))

does_link : (others : List Word) (model term lemma : List ℕ) (reply : Reply) → Does Link others (model ∷ term ∷ lemma ∷ []) reply → Links model term lemma reply
does_link (out ∷ []) model term lemma reply job = job
does_link _ model term lemma reply job = absurd job

abbrev pub LinkedIsJoined : Type 0
LinkedIsJoined = (model term lemma written : List ℕ) (reply : Reply) → Links model term lemma reply → reply.written ≡ Some written →
    IsJoined model term lemma written reply

pub whole_links : EachIsChecked → LinkedIsJoined → (words : List Word) (status : ℕ) (old new : Outside) (reply : Reply) →
    GivesWhole words status old new reply →
    LinksTruly words status old new
whole_links checked law words status old new reply gives model term lemma out said form there less says =
    let few = few_given gives less in
    let texts = model ∷ term ∷ lemma ∷ [] in
    let answer = response words old.files Link texts reply gives.answer form there.texts_are in
    let job = does_link (others_of Link words) model term lemma reply (is_done Link words texts reply answer few) in
    let written = writes_this reply (linked_or_refused model term lemma reply job) few words old new texts out there gives.files in
    let by = law model term lemma out reply job written in
    record {
      accepted = whole_accepted Link (Term ∷ Lemma ∷ []) model refl (linked_writes checked model)
          words status old new reply gives out said form (term ∷ lemma ∷ [], there) less says;
      rows = by.rows;
      proof = by.main;
      of_term = by.takes.replays.accepts;
      lemma_rows = by.more;
      lemma_proof = by.by;
      of_lemma = by.replays.accepts;
      linked_rows = by.after;
      linked = by.last;
      of_out = by.is_written.accepts;
      joined = by.joined;
    }

does_trim : (others : List Word) (model term : List ℕ) (reply : Reply) → Does Trim others (model ∷ term ∷ []) reply → Trims model term reply
does_trim (out ∷ []) model term reply job = job
does_trim _ model term reply job = absurd job

abbrev pub TrimmedIsNeat : Type 0
TrimmedIsNeat = (model term written : List ℕ) (reply : Reply) → Trims model term reply → reply.written ≡ Some written → IsTrimmedBy model term written reply

pub whole_trims : EachIsChecked → TrimmedIsNeat → (words : List Word) (status : ℕ) (old new : Outside) (reply : Reply) → GivesWhole words status old new reply →
    TrimsTruly words status old new
whole_trims checked law words status old new reply gives model term out said form there less says =
    let few = few_given gives less in
    let texts = model ∷ term ∷ [] in
    let answer = response words old.files Trim texts reply gives.answer form there.texts_are in
    let job = does_trim (others_of Trim words) model term reply (is_done Trim words texts reply answer few) in
    let written = writes_this reply (trimmed_or_refused model term reply job) few words old new texts out there gives.files in
    let by = law model term out reply job written in
    record {
      accepted = whole_accepted Trim (Term ∷ []) model refl (trimmed_writes checked model)
          words status old new reply gives out said form (term ∷ [], there) less says;
      steps = by.steps;
      rows = by.rows;
      proof = by.last;
      of_term = by.takes.replays;
      kept = by.kept;
      kept_rows = by.kept_rows;
      of_out = by.is_written.accepts;
      text = recorded_text by.records written;
      few = by.few;
      named = by.named;
      unlike = by.unlike;
    }
