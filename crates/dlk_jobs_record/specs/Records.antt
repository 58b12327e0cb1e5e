-- What is answered by a command that writes a term.
use Rattle.std.specs.Prelude.{◌≡◌, ◌≢◌, ◌⊎◌, ◌<◌, ◌≤◌, ℕ, List, [], ◌∷◌, ◌++◌, length, Some, None, codes, decimal}
use Rattle.dlk_calculus.specs.Provables.{Provable}
use Rattle.dlk_calculus.specs.Steps.{Step}
use Rattle.dlk_report.specs.Reports.{is_closed}
use Rattle.dlk_recorder.specs.Terms.{term_text}
use Rattle.dlk_replies.specs.declared.form.Role.TheVariants.{Term}
use Rattle.dlk_replies.specs.declared.reply.Layout.TheVariants.{Text}
use Rattle.dlk_replies.specs.declared.reply.Status.TheVariants.{Refused}
use Rattle.dlk_replies.specs.Forms.{limit_of}
use Rattle.dlk_replies.specs.Replies.{Reply, printing, refusal}
use Rattle.dlk_jobs_check.specs.Terms.{Accepts}
use Rattle.dlk_jobs_check.specs.Checks.{status_of, report_in, reported}

-- refused: term-too-long N
abbrev pub term_too_long : ℕ → Reply
term_too_long bytes = refusal (codes "term-too-long " ++ decimal bytes)

-- the report of what the steps show, and their term file
abbrev pub recorded : Provable → List Step → Reply
recorded p steps = record { status = status_of (is_closed p.goals); printed = report_in Text p (length steps); written = Some (term_text steps) }

-- Records steps p reply: what is answered where these steps show this provable, by a command that writes the term file of steps.
pub data Records (steps : List Step) (p : Provable) : Reply → Type 0 where
  too_long : limit_of Term < length (term_text steps) → Records steps p (term_too_long (length (term_text steps)))
  writes : length (term_text steps) ≤ limit_of Term → Records steps p (recorded p steps)

-- the last of the rows
pub record IsLast (rows : List Provable) (p : Provable) : Type 0 where
  pub before : List Provable
  pub rows_are : rows ≡ before ++ p ∷ []

-- IsWritten term rows p reply: the term is no longer than a term may be, and is accepted with these rows, and the reply reports the last of them.
pub record IsWritten (term : List ℕ) (rows : List Provable) (p : Provable) (reply : Reply) : Type 0 where
  pub short : length term ≤ limit_of Term
  pub accepts : Accepts term rows p
  pub report : printing reply.status reply.printed ≡ reported Text p (length rows)

-- a refusal writes no term, and every other reply writes one
abbrev pub WritesUnlessRefused : Reply → Type 0
WritesUnlessRefused reply = ((reply.status ≡ Refused) × (reply.written ≡ None)) ⊎ ((reply.status ≢ Refused) × (term : List ℕ) × (reply.written ≡ Some term))
