-- Sessions: what each line makes of the state, and its reply.
use Rattle.std.specs.Prelude.{◌≡◌, ℕ, List, [], ◌∷◌, ◌++◌, take, length, Option, Some, None}
use Rattle.dlk_tree.specs.Trees.{Tree}
use Rattle.dlk_calculus.specs.Places.{At, IsPlace}
use Rattle.dlk_calculus.specs.Provables.{Provable}
use Rattle.dlk_calculus.specs.Sequents.{alone_right}
use Rattle.dlk_calculus.specs.Steps.{Step, Start, StepOf}
use Rattle.dlk_tacsyn.specs.Tactics.{Tactic}
use Rattle.dlk_elab.specs.declared.fault.FailWhy.{FailWhy}
use Rattle.dlk_elab.specs.Outcomes.{Progress, Outcome, Done, Fails, Budget, most_runs, main_goals}
use Rattle.dlk_report.specs.Reports.{text_report}
use Rattle.dlk_session.specs.declared.reply.Reply.{Reply}
use Rattle.dlk_session.specs.declared.reply.Reply.TheVariants as reply

-- what becomes of a goal of the last of these rows, by a strategy, where so many atoms were run before
abbrev pub Becoming : Type 1
Becoming = Tactic → List Provable → ℕ → ℕ → Outcome → Type 0

-- how far a session has come
pub record State : Type 0 where
  -- the steps, and the rows that they give
  pub steps : List Step
  pub rows : List Provable
  -- how many steps there were before each run that is done and wasn't undone, the last one last
  pub earlier : List ℕ
  -- how many atoms were run
  pub used : ℕ
  -- the steps that were saved last
  pub saved : Option (List Step)

-- a session on a formula begins with the step that states it
pub record Begins (formula : Tree) (now : State) : Type 0 where
  pub provable : Provable
  pub start : StepOf [] (Start (alone_right formula)) provable
  pub is : now ≡ record { steps = Start (alone_right formula) ∷ []; rows = provable ∷ []; earlier = []; used = 0; saved = None }

-- a strategy on a goal of the last row
pub data Applies (becomes : Becoming) (goal : ℕ) (strategy : Tactic) (now : State) : Reply → State → Type 0 where
  no_goal : ¬ IsPlace (main_goals now.rows) goal → Applies becomes goal strategy now reply.NoGoal now
  done : {made : Progress} {left : ℕ} → IsPlace (main_goals now.rows) goal → becomes strategy now.rows goal now.used (Done made left) →
      Applies becomes goal strategy now (reply.Ok (length (main_goals made.rows)))
      (record now { steps = now.steps ++ made.steps; rows = made.rows; earlier = now.earlier ++ length now.steps ∷ []; used = made.used })
  fails : {at used : ℕ} {why : FailWhy} → IsPlace (main_goals now.rows) goal → becomes strategy now.rows goal now.used (Fails at why used) →
      Applies becomes goal strategy now (reply.Fails at why) (record now { used = used })
  spent : {at : ℕ} → IsPlace (main_goals now.rows) goal → becomes strategy now.rows goal now.used (Budget at) →
      Applies becomes goal strategy now (reply.Budget at) (record now { used = most_runs })

-- the last run that is done is undone; its atoms stay counted
pub data Undoes (now : State) : Reply → State → Type 0 where
  nothing : now.earlier ≡ [] → Undoes now reply.Nothing now
  undone : (before : List ℕ) (count : ℕ) → now.earlier ≡ before ++ count ∷ [] →
      Undoes now (reply.Ok (length (main_goals (take count now.rows))))
      (record now { steps = take count now.steps; rows = take count now.rows; earlier = before })

-- the steps are saved
abbrev pub saving : State → State
saving now = record now { saved = Some now.steps }

-- a line of a script
pub data Line : Type 0 where
  Apply : ℕ → Tactic → Line
  Undo : Line
  Show : Line
  Save : Line

-- what a line answers
pub data Answer : Type 0 where
  Replies : Reply → Answer
  -- a text
  Shows : List ℕ → Answer

-- Turn becomes now line answer next: one line
pub data Turn (becomes : Becoming) (now : State) : Line → Answer → State → Type 0 where
  applies : {goal : ℕ} {strategy : Tactic} {says : Reply} {next : State} → Applies becomes goal strategy now says next →
      Turn becomes now (Apply goal strategy) (Replies says) next
  undoes : {says : Reply} {next : State} → Undoes now says next → Turn becomes now Undo (Replies says) next
  shows : {p : Provable} → At now.rows (length now.rows) p → Turn becomes now Show (Shows (text_report p (length now.rows))) now
  saves : Turn becomes now Save (Replies (reply.Saved (length now.steps))) (saving now)

-- Turns becomes now lines answers last: lines in order, each on what those before it have left
pub data Turns (becomes : Becoming) : State → List Line → List Answer → State → Type 0 where
  none : {now : State} → Turns becomes now [] [] now
  more : {now next last : State} {line : Line} {lines : List Line} {answer : Answer} {answers : List Answer} → Turn becomes now line answer next →
      Turns becomes next lines answers last → Turns becomes now (line ∷ lines) (answer ∷ answers) last
