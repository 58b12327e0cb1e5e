-- What may be relied on.
use Rattle.std.specs.Prelude.{◌≡◌, ◌≢◌, ◌⊎◌, ◌↔◌, ◌<◌, ◌≤◌, ℕ, List, [], ◌∷◌, ◌++◌, length, take, Some, codes}
use Rattle.dlk_tree.specs.Trees.{Tree}
use Rattle.dlk_calculus.specs.Provables.{Provable, HasLeaves}
use Rattle.dlk_calculus.specs.Steps.{Step, Derives}
use Rattle.dlk_desk.specs.Outside.{Outside}
use Rattle.dlk_guard.specs.declared.why.Why.{Why}
use Rattle.dlk_guard.specs.Guarded.{lines, Guarded, FirstUnguarded}
use Rattle.dlk_replay.specs.Files.{Verdict, bad, file_lines, FileSteps}
use Rattle.dlk_replay.specs.declared.fault.LineWhy.{LineWhy}
use Rattle.dlk_report.specs.Reports.{text_report}
use Rattle.dlk_replies.specs.declared.command.Command.{Command}
use Rattle.dlk_replies.specs.declared.command.Command.TheVariants.{Check, Report, Guard, Prove, Link, Trim}
use Rattle.dlk_replies.specs.declared.reply.Layout.{Layout}
use Rattle.dlk_replies.specs.declared.reply.Layout.TheVariants.{Text, Json}
use Rattle.dlk_replies.specs.declared.reply.Showing.TheVariants.{Reported}
use Rattle.dlk_replies.specs.declared.form.Role.TheVariants.{Model, Term}
use Rattle.dlk_replies.specs.Forms.{Word, command_of, limit_of}
use Rattle.dlk_replies.specs.Inputs.{inputs, output}
use Rattle.dlk_replies.specs.Replies.{Reply, code_of}
use Rattle.dlk_jobs_check.specs.Terms.{ModelText, proves, Accepts, line_refused, other_conclusion}
use Rattle.dlk_jobs_check.specs.Checks.{Checks, report_in}
use Rattle.dlk_jobs_check.specs.Guards.{guarded_line, unguarded_line}
use Rattle.dlk.specs.Answers.{bytes_of}

-- The words run a command that prints a report as text, on the model in the file of this name. One case a command. `guard` prints a line of
-- its own first, and `session` answers its script line by line.
pub data Reports (model : Word) : List Word → Type 0 where
  check : (term : Word) → Reports model (codes "check" ∷ model ∷ term ∷ [])
  prove : (strategy term : Word) → Reports model (codes "prove" ∷ model ∷ strategy ∷ term ∷ [])
  link : (term lemma out : Word) → Reports model (codes "link" ∷ model ∷ term ∷ lemma ∷ out ∷ [])
  trim : (term out : Word) → Reports model (codes "trim" ∷ model ∷ term ∷ out ∷ [])

-- what is printed of a text by the status: with 0 the whole, and with 5 a front
pub data IsGiven (whole : List ℕ) : ℕ → List ℕ → Type 0 where
  all : IsGiven whole 0 whole
  front : (bytes : ℕ) → IsGiven whole 5 (take bytes whole)

-- The model's formula is derived from exactly the leaves of the report that is printed, whole or with status 5 in part.
pub record IsClosed (model : List ℕ) (status : ℕ) (said : List ℕ) : Type 0 where
  pub formula : Tree
  pub reads : ModelText model formula
  pub proof : Provable
  pub derived : Derives proof
  pub conclusion : proof.conclusion ≡ proves formula
  pub closed : proof.goals ≡ []
  -- each leaf is a sequent of arithmetic, and none stands twice
  pub leaves : HasLeaves proof
  pub lines : ℕ
  -- what is printed is the report of this very provable, or a front of it where printing failed
  pub report : IsGiven (text_report proof lines) status said

-- Whenever one of these commands prints `closed`, the formula of the model is derived from exactly the leaves of the report, which is
-- printed whole or with status 5 in part. This is the headline: it needs no format of terms.
abbrev pub DerivedTruly : List Word → ℕ → Outside → Outside → Type 0
DerivedTruly words status old new =
    (name : Word) (model said : List ℕ) → Reports name words → old.files name ≡ Some model → new.printed ≡ old.printed ++ (codes "closed" ++ said) →
    IsClosed model status (codes "closed" ++ said)

-- A command was run on inputs of these texts, and behind the run this one stands in the file that it writes.
pub record Writes (words : List Word) (old new : Outside) (texts : List (List ℕ)) (out : List ℕ) : Type 0 where
  pub texts_are : bytes_of old.files (inputs words) ≡ Some texts
  pub name : Word
  pub named : output words ≡ Some name
  pub written : new.files name ≡ Some out

-- The first of the inputs is this model, and behind the run this term stands in the output.
abbrev pub WritesTerm : List Word → Outside → Outside → List ℕ → List ℕ → Type 0
WritesTerm words old new model term = (others : List (List ℕ)) × Writes words old new (model ∷ others) term

-- The model and the term of which a command speaks where it prints `closed`: `check` has read both, and `prove`, `link` and `trim` have read
-- the one and written the other. `convert` reads no model, `guard` prints a line of its own first, `session` answers its script line by
-- line, and the others print no report as text.
abbrev pub SpeaksOf : Command → List Word → Outside → Outside → List ℕ → List ℕ → Type 0
SpeaksOf Check words old new model term = bytes_of old.files (inputs words) ≡ Some (model ∷ term ∷ [])
SpeaksOf Prove words old new model term = WritesTerm words old new model term
SpeaksOf Link words old new model term = WritesTerm words old new model term
SpeaksOf Trim words old new model term = WritesTerm words old new model term
SpeaksOf _ words old new model term = ⊥

-- The model's formula is derived from exactly the leaves of the report, by the lines of the term: they give these rows, the last of which
-- is the provable of the report, and it counts them.
pub record IsDerived (model term : List ℕ) (status : ℕ) (said : List ℕ) : Type 0 where
  pub shown : IsClosed model status said
  pub rows : List Provable
  pub accepts : Accepts term rows shown.proof
  pub count : shown.lines ≡ length rows

-- Whenever `check`, `prove`, `link` or `trim` prints `closed`, the formula of the model is derived from the leaves of the report, by the
-- lines of the term.
abbrev pub ClosedTruly : List Word → ℕ → Outside → Outside → Type 0
ClosedTruly words status old new =
    (command : Command) (model term said : List ℕ) → command_of words ≡ Some command → SpeaksOf command words old new model term →
    new.printed ≡ old.printed ++ (codes "closed" ++ said) → IsDerived model term status (codes "closed" ++ said)

-- the command that prints the report in this layout
abbrev pub command_in : Layout → Command
command_in Text = Check
command_in Json = Report

-- the words have `check`, or `report`, run on files of these bytes
pub record RunsCheck (layout : Layout) (words : List Word) (old : Outside) (model term : List ℕ) : Type 0 where
  pub form : command_of words ≡ Some (command_in layout)
  pub texts : bytes_of old.files (inputs words) ≡ Some (model ∷ term ∷ [])

-- What a report that is printed stands for: the lines of the term are steps that end in the formula, and the status tells whether no
-- goals are left.
pub record IsReported (layout : Layout) (term : List ℕ) (f : Tree) (status : ℕ) (said : List ℕ) : Type 0 where
  pub rows : List Provable
  pub proof : Provable
  pub accepts : Accepts term rows proof
  pub derived : Derives proof
  pub conclusion : proof.conclusion ≡ proves f
  pub closed : (status ≡ 0) ↔ (proof.goals ≡ [])
  pub leaves : HasLeaves proof
  pub report : said ≡ report_in layout proof (length rows)

-- the first wrong line is named
pub record NamesLine (term said : List ℕ) : Type 0 where
  pub line : ℕ
  pub why : LineWhy
  pub verdict : Verdict (file_lines term) (bad line why)
  pub refusal : said ≡ (line_refused line why).printed

-- all lines are steps, and the refusal has the conclusion that isn't the model
pub record NamesConclusion (term : List ℕ) (f : Tree) (said : List ℕ) : Type 0 where
  pub rows : List Provable
  pub proof : Provable
  pub accepts : Accepts term rows proof
  pub other : proof.conclusion ≢ proves f
  pub refusal : said ≡ (other_conclusion accepts.line f proof.conclusion).printed

-- A term within the limits is accepted exactly where each of its lines is a step of the calculus; else its first wrong line is named.
pub record Judges (layout : Layout) (term : List ℕ) (f : Tree) (status : ℕ) (said : List ℕ) : Type 0 where
  pub accepted : status < 2 → IsReported layout term f status said
  pub refused : status ≡ 2 → NamesLine term said ⊎ NamesConclusion term f said
  pub first_wrong : (n : ℕ) (why : LineWhy) → Verdict (file_lines term) (bad n why) → status < 3 → (status ≡ 2) × (said ≡ (line_refused n why).printed)
  pub all_steps : (rows : List Provable) (p : Provable) → Accepts term rows p → p.conclusion ≡ proves f → status < 3 → status < 2
  pub another : (rows : List Provable) (p : Provable) → (a : Accepts term rows p) → p.conclusion ≢ proves f → status < 3 →
      (status ≡ 2) × (said ≡ (other_conclusion a.line f p.conclusion).printed)

abbrev pub JudgesTruly : List Word → ℕ → Outside → Outside → Type 0
JudgesTruly words status old new =
    (layout : Layout) (model term said : List ℕ) (f : Tree) → RunsCheck layout words old model term → length model ≤ limit_of Model →
    length term ≤ limit_of Term →
    ModelText model f → new.printed ≡ old.printed ++ said → Judges layout term f status said

-- Model and term are within their limits, and `check` answers to them with this status and what is printed.
pub record IsAccepted (model term : List ℕ) (status : ℕ) (said : List ℕ) : Type 0 where
  -- the model is no longer than the longest that is read
  pub model_short : length model ≤ limit_of Model
  pub short : length term ≤ limit_of Term
  pub reply : Reply
  pub checks : Checks (Reported Text) model term reply
  pub status_is : code_of reply.status ≡ status
  pub said_is : reply.printed ≡ said

-- What `prove` writes is accepted by `check`, with the same report and the same status.
abbrev pub ProvesTruly : List Word → ℕ → Outside → Outside → Type 0
ProvesTruly words status old new =
    (model term said : List ℕ) → command_of words ≡ Some Prove → WritesTerm words old new model term → status < 2 →
    new.printed ≡ old.printed ++ said → IsAccepted model term status said

-- the words have `guard`, run on files of these bytes
pub record RunsGuard (words : List Word) (old : Outside) (model term : List ℕ) : Type 0 where
  pub form : command_of words ≡ Some Guard
  pub texts : bytes_of old.files (inputs words) ≡ Some (model ∷ term ∷ [])

-- The line of the guard on a term that gives these rows: `guarded` exactly where its lines are, each with its row, and else the first that
-- isn't, with its reason.
pub record TellsGuarded (term : List ℕ) (rows : List Provable) (said : List ℕ) : Type 0 where
  pub taken : List Step
  pub says : FileSteps (file_lines term) taken
  pub guarded : (said ≡ guarded_line) ↔ Guarded (lines taken rows)
  pub unguarded : (said ≢ guarded_line) → (n : ℕ) × (why : Why) × FirstUnguarded (lines taken rows) n why × (said ≡ unguarded_line n why)

-- What is printed of an accepted term that ends in the model: the line of the guard, and the report.
pub record IsGuarded (model term : List ℕ) (status : ℕ) (said : List ℕ) : Type 0 where
  pub formula : Tree
  pub reads : ModelText model formula
  pub first : List ℕ
  pub report : List ℕ
  pub said_is : said ≡ first ++ report
  pub reported : IsReported Text term formula status report
  pub guard : TellsGuarded term reported.rows first

-- Whenever `guard` prints something with status 0 or 1, the term is accepted, and its line and its report say this of it.
abbrev pub GuardsTruly : List Word → ℕ → Outside → Outside → Type 0
GuardsTruly words status old new =
    (model term said : List ℕ) → RunsGuard words old model term → status < 2 → new.printed ≡ old.printed ++ said → IsGuarded model term status said
