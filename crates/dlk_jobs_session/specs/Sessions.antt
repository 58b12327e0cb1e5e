-- What `session` answers to a model and a script, and the term that it writes.
use Rattle.std.specs.Prelude.{◌≡◌, ◌<◌, ◌≤◌, ℕ, List, ◌++◌, length, Option, Some, None, codes, decimal, flat_map}
use Rattle.dlk_tree.specs.Trees.{Tree}
use Rattle.dlk_calculus.specs.Steps.{Step}
use Rattle.dlk_grammar.specs.Texts.{TextFault}
use Rattle.dlk_print.specs.Lines.{line}
use Rattle.dlk_elab.specs.Outcomes.{main_goals}
use Rattle.dlk_report.specs.Reports.{is_closed}
use Rattle.dlk_strategy.specs.Runs.{RunsOn}
use Rattle.dlk_recorder.specs.Terms.{term_text}
use Rattle.dlk_session.specs.declared.reply.Reply.{Reply as Said}
use Rattle.dlk_session.specs.declared.reply.Reply.TheVariants as says
use Rattle.dlk_session.specs.Sessions.{State, Line, Answer, Replies, Shows, Begins, Turns}
use Rattle.dlk_replies.specs.declared.form.Role.TheVariants.{Model, Term}
use Rattle.dlk_replies.specs.Forms.{limit_of}
use Rattle.dlk_replies.specs.Replies.{Reply, refusal}
use Rattle.dlk_replies.specs.Refusals.{text_refused}
use Rattle.dlk_jobs_check.specs.Terms.{ModelText, ModelFault}
use Rattle.dlk_jobs_check.specs.Checks.{status_of}
use Rattle.dlk_jobs_record.specs.Records.{term_too_long}
use Rattle.dlk_jobs_record.specs.Fates.{fails_text, budget_text}
use Rattle.dlk_jobs_session.specs.Scripts.{Script, ScriptFault}

-- what a reply says. One row a reply.
abbrev pub reply_text : Said → List ℕ
reply_text (says.Ok goals) = codes "ok goals " ++ decimal goals
reply_text says.NoGoal = codes "no-goal"
reply_text (says.Fails at why) = fails_text at why
reply_text (says.Budget at) = budget_text at
reply_text says.Nothing = codes "nothing"
reply_text (says.Saved lines) = codes "saved " ++ decimal lines

-- what is printed of a line's answer: a line, or a report
abbrev pub answer_text : Answer → List ℕ
answer_text (Replies reply) = line (reply_text reply)
answer_text (Shows report) = report

abbrev pub answers_text : List Answer → List ℕ
answers_text answers = flat_map answer_text answers

-- refused: script line N
abbrev pub script_refused : ℕ → Reply
script_refused n = refusal (codes "script line " ++ decimal n)

-- the texts are a formula and the lines of a script, which are answered so and leave this state
pub record Plays (model script : List ℕ) (answers : List Answer) (last : State) : Type 0 where
  pub formula : Tree
  pub reads : ModelText model formula
  pub lines : List Line
  pub says : Script script lines
  pub first : State
  pub begins : Begins formula first
  pub turns : Turns RunsOn first lines answers last

-- the answers in order, and whether goals are left in the end
abbrev pub played : List Answer → State → Option (List ℕ) → Reply
played answers last written =
    record { status = status_of (is_closed (main_goals last.rows)); printed = answers_text answers; written = written }

-- Sessions model script reply: this is what is answered to the two texts. One case an answer, the first that applies.
pub data Sessions (model script : List ℕ) : Reply → Type 0 where
  bad_model : (why : TextFault) → ModelFault model why → Sessions model script (text_refused Model why)
  bad_line : (f : Tree) → ModelText model f → (n : ℕ) → ScriptFault script n → Sessions model script (script_refused n)
  -- the saved steps are more than a term may be, and nothing of the answers is printed
  too_long : (answers : List Answer) (last : State) → Plays model script answers last → (steps : List Step) → last.saved ≡ Some steps →
      limit_of Term < length (term_text steps) → Sessions model script (term_too_long (length (term_text steps)))
  -- no steps are saved, and no term is written
  keeps_none : (answers : List Answer) (last : State) → Plays model script answers last → last.saved ≡ None →
      Sessions model script (played answers last None)
  writes : (answers : List Answer) (last : State) → Plays model script answers last → (steps : List Step) → last.saved ≡ Some steps →
      length (term_text steps) ≤ limit_of Term → Sessions model script (played answers last (Some (term_text steps)))
