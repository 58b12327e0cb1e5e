-- What commands write to which `check` answers the same.
use Rattle.std.proofs.Common.{◌≡◌, ◌⊎◌, ◌≤◌, ◌<◌, ℕ, Bool, true, cond, List, [], ◌∷◌, length, Some, refl, sym, ap, subst, ◌∙◌, inl, inr, arith}
use Rattle.std.specs.Prelude.{bytes_eq}
use Rattle.std.proofs.lemmas.Slice.Eq.{bytes_eq-Decides}
use Rattle.dlk_calculus.specs.Provables.{Provable}
use Rattle.dlk_calculus.specs.Steps.{Step}
use Rattle.dlk_desk.specs.Outside.{Outside, Files, SameFiles}
use Rattle.dlk_recorder.specs.Terms.{term_text}
use Rattle.dlk_replies.specs.declared.command.Command.{Command}
use Rattle.dlk_replies.specs.declared.command.Command.TheVariants.{Prove, Link, Trim}
use Rattle.dlk_replies.specs.declared.form.Role.TheVariants.{Model, Term}
use Rattle.dlk_replies.specs.declared.reply.Layout.TheVariants.{Text}
use Rattle.dlk_replies.specs.declared.reply.Showing.TheVariants.{Reported}
use Rattle.dlk_replies.specs.Forms.{Word, command_of, others_of, limit_of}
use Rattle.dlk_replies.specs.Inputs.{inputs, output}
use Rattle.dlk_replies.specs.Replies.{Reply, code_of, printing}
use Rattle.dlk_jobs_check.specs.Checks.{Checks}
use Rattle.dlk_jobs_record.specs.Records.{Records, too_long, writes}
use Rattle.dlk_jobs_prove.specs.Proves.{Proves, bad_model, bad_strategy, fails, spent, records}
use Rattle.dlk_jobs_terms.specs.Made.{RecordsLast}
use Rattle.dlk_jobs_terms.specs.Converts.{Converts, bad_line, records as conversion}
use Rattle.dlk_jobs_terms.specs.Links.{LinksSteps, no_goal, past_limit, records as linking, Links, refuses as link_refuses, bad_lemma, links}
use Rattle.dlk_jobs_terms.specs.Trims.{Trims, refuses as trim_refuses, trims}
use Rattle.dlk_answers.specs.Answers.{Does}
use Rattle.dlk.specs.Answers.{bytes_of, Answers}
use Rattle.dlk.specs.Outputs.{output_with, after}
use Rattle.dlk.specs.Runs.{output_to}
use Rattle.dlk.specs.Headline.{Writes}
use Rattle.dlk.proofs.Refusals.{IsRefusal, text_refusal, strategy_refusal, term_refusal}
use Rattle.dlk.proofs.Done.{response, refused_or_done}

-- the file that the words let the program write holds the bytes of the reply
pub file_is : (words : List Word) (old new : Files) (reply : Reply) (name : Word) (bytes : List ℕ) → output words ≡ Some name → reply.written ≡ Some bytes →
    SameFiles (after (output_to words reply) old) new → new name ≡ Some bytes
file_is words old new reply name bytes named written same =
    let is_written : SameFiles (after (Some (record { name = name; bytes = bytes })) old) new =
    subst (λ o. SameFiles (after o old) new) ((λ i. output_with (named i) (written i))) same in
    let here : bytes_eq name name ≡ true = (bytes_eq-Decides name name).1 refl in
    is_written name ∙ ap (λ (b : Bool). cond b (Some bytes) (old name)) here

pub file_holds : (words : List Word) (old new : Files) (reply : Reply) (name : Word) (bytes term : List ℕ) → output words ≡ Some name →
    reply.written ≡ Some bytes →
    SameFiles (after (output_to words reply) old) new → new name ≡ Some term → bytes ≡ term
file_holds words old new reply name bytes term named written same there =
    let e : Some bytes ≡ Some term = sym (file_is words old new reply name bytes named written same) ∙ there in
    cc

-- `check` answers the same to a term that is written, with the same report
abbrev pub IsCheckedToo : List ℕ → List ℕ → Reply → Type 0
IsCheckedToo model term reply = (length term ≤ limit_of Term) × Checks (Reported Text) model term (printing reply.status reply.printed)

-- so it is of each command that writes a term of a model
pub record EachIsChecked : Type 0 where
  pub proves : (model strategy term : List ℕ) (reply : Reply) → Proves model strategy reply → reply.written ≡ Some term → IsCheckedToo model term reply
  pub links : (model term lemma out : List ℕ) (reply : Reply) → Links model term lemma reply → reply.written ≡ Some out → IsCheckedToo model out reply
  pub trims : (model term out : List ℕ) (reply : Reply) → Trims model term reply → reply.written ≡ Some out → IsCheckedToo model out reply

pub checked_by : ((model strategy term : List ℕ) (reply : Reply) → Proves model strategy reply → reply.written ≡ Some term → IsCheckedToo model term reply) →
    ((model term lemma out : List ℕ) (reply : Reply) → Links model term lemma reply → reply.written ≡ Some out → IsCheckedToo model out reply) →
    ((model term out : List ℕ) (reply : Reply) → Trims model term reply → reply.written ≡ Some out → IsCheckedToo model out reply) → EachIsChecked
checked_by proved linked trimmed = record { proves = proved; links = linked; trims = trimmed }

-- the term that a reply writes
abbrev pub WritesSome : Reply → Type 0
WritesSome reply = (term : List ℕ) × (reply.written ≡ Some term)

-- and `check` answers the same to it
pub record WritesToo (model : List ℕ) (reply : Reply) : Type 0 where
  pub term : List ℕ
  pub written : reply.written ≡ Some term
  pub short : length term ≤ limit_of Term
  pub checks : Checks (Reported Text) model term (printing reply.status reply.printed)

abbrev pub WritesChecked : List ℕ → Reply → Type 0
WritesChecked model reply = IsRefusal reply ⊎ WritesToo model reply

-- a record of steps is a refusal, or is written
pub recorded_or_refused : (steps : List Step) (p : Provable) (reply : Reply) → Records steps p reply → IsRefusal reply ⊎ WritesSome reply
recorded_or_refused steps p _ (too_long long) = inl (record { two = refl; begins = refl })
recorded_or_refused steps p _ (writes short) = inr (term_text steps, refl)

last_recorded_or_refused : (steps : List Step) (reply : Reply) → RecordsLast steps reply → IsRefusal reply ⊎ WritesSome reply
last_recorded_or_refused steps reply (last, ends, recorded) = recorded_or_refused steps last reply recorded

pub proved_or_refused : (model strategy : List ℕ) (reply : Reply) → Proves model strategy reply → IsRefusal reply ⊎ WritesSome reply
proved_or_refused model strategy _ (bad_model why is) = inl (text_refusal Model why)
proved_or_refused model strategy _ (bad_strategy f reads why is) = inl (strategy_refusal why)
proved_or_refused model strategy _ (fails at used why run) = inl (record { two = refl; begins = refl })
proved_or_refused model strategy _ (spent at run) = inl (record { two = refl; begins = refl })
proved_or_refused model strategy _ (records made left run p ended r is) = recorded_or_refused made.steps p r is

pub converted_or_refused : (term : List ℕ) (reply : Reply) → Converts term reply → IsRefusal reply ⊎ WritesSome reply
converted_or_refused term _ (bad_line n why v) = inl (record { two = refl; begins = refl })
converted_or_refused term _ (conversion steps rows p t r is) = recorded_or_refused steps p r is

steps_linked_or_refused : (steps others : List Step) (p q : Provable) (reply : Reply) → LinksSteps steps others p q reply → IsRefusal reply ⊎ WritesSome reply
steps_linked_or_refused steps others p q _ (no_goal none) = inl (record { two = refl; begins = refl })
steps_linked_or_refused steps others p q _ (past_limit there linked is why first) = inl (record { two = refl; begins = refl })
steps_linked_or_refused steps others p q _ (linking there linked is reply recorded) = last_recorded_or_refused linked reply recorded

pub linked_or_refused : (model term lemma : List ℕ) (reply : Reply) → Links model term lemma reply → IsRefusal reply ⊎ WritesSome reply
linked_or_refused model term lemma _ (link_refuses r refused) = inl (term_refusal model term r refused)
linked_or_refused model term lemma _ (bad_lemma steps rows p t n why v) = inl (record { two = refl; begins = refl })
linked_or_refused model term lemma _ (links steps rows p t others more q u reply is) = steps_linked_or_refused steps others p q reply is

pub trimmed_or_refused : (model term : List ℕ) (reply : Reply) → Trims model term reply → IsRefusal reply ⊎ WritesSome reply
trimmed_or_refused model term _ (trim_refuses r refused) = inl (term_refusal model term r refused)
trimmed_or_refused model term _ (trims steps rows p t kept is reply recorded) = last_recorded_or_refused kept reply recorded

-- with a status below 2 it is the term that stands in the file
pub writes_this : (reply : Reply) → IsRefusal reply ⊎ WritesSome reply → code_of reply.status < 2 →
    (words : List Word) (old new : Outside) (texts : List (List ℕ)) (out : List ℕ) →
    Writes words old new texts out → SameFiles (after (output_to words reply) old.files) new.files → reply.written ≡ Some out
writes_this reply (inl refusal) less words old new texts out there files = absurd (omega (arith, less, refusal.two))
writes_this reply (inr (term, written)) less words old new texts out there files =
    written ∙ ap Some (file_holds words old.files new.files reply there.name term out there.named written files there.written)

too : (model : List ℕ) (reply : Reply) → IsRefusal reply ⊎ WritesSome reply → ((term : List ℕ) → reply.written ≡ Some term → IsCheckedToo model term reply) →
    WritesChecked model reply
too model reply (inl refusal) checked = inl refusal
too model reply (inr (term, written)) checked =
    let c = checked term written in inr (record { term = term; written = written; short = c.0; checks = c.1 })

module _ (checked : EachIsChecked) (model : List ℕ) where
  pub proved_writes : (others : List Word) (texts : List (List ℕ)) (reply : Reply) → Does Prove others (model ∷ texts) reply → WritesChecked model reply
  proved_writes (name ∷ []) (strategy ∷ []) reply job =
      too model reply (proved_or_refused model strategy reply job) (λ term. checked.proves model strategy term reply job)
  proved_writes _ _ reply job = absurd job

  pub linked_writes : (others : List Word) (texts : List (List ℕ)) (reply : Reply) → Does Link others (model ∷ texts) reply → WritesChecked model reply
  linked_writes (name ∷ []) (term ∷ lemma ∷ []) reply job =
      too model reply (linked_or_refused model term lemma reply job) (λ out. checked.links model term lemma out reply job)
  linked_writes _ _ reply job = absurd job

  pub trimmed_writes : (others : List Word) (texts : List (List ℕ)) (reply : Reply) → Does Trim others (model ∷ texts) reply → WritesChecked model reply
  trimmed_writes (name ∷ []) (term ∷ []) reply job =
      too model reply (trimmed_or_refused model term reply job) (λ out. checked.trims model term out reply job)
  trimmed_writes _ _ reply job = absurd job

-- what a command answers that writes a term of a model
pub refused_or_written : (c : Command) (model : List ℕ) →
    ((others : List Word) (texts : List (List ℕ)) (reply : Reply) → Does c others (model ∷ texts) reply → WritesChecked model reply) →
    (words : List Word) (files : Files) (texts : List (List ℕ)) (reply : Reply) → Answers words files reply → command_of words ≡ Some c →
    bytes_of files (inputs words) ≡ Some (model ∷ texts) → WritesChecked model reply
refused_or_written c model each words files texts reply answers form there =
    elim (refused_or_done c words (model ∷ texts) reply (response words files c (model ∷ texts) reply answers form there)) [
      | inl refusal ↦ inl refusal
      | inr job ↦ each (others_of c words) texts reply job
    ]
