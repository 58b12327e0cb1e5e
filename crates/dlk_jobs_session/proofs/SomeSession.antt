-- `session` answers something to a model and a script.
use Rattle.std.proofs.Common.{◌≡◌, ◌⊎◌, ℕ, List, [], ◌∷◌, ◌++◌, length, Option, None, Some, refl, ◌∙◌, inl, inr, arith}
use Rattle.std.specs.List.{All}
use Rattle.std.proofs.lemmas.Bool.{cases_lt}
use Rattle.std.proofs.lemmas.List.Elements.{All-nil, All-cons, All-head, All-tail}
use Rattle.dlk_tree.specs.Trees.{Tree}
use Rattle.dlk_calculus.specs.Places.{IsPlace}
use Rattle.dlk_calculus.specs.Provables.{Provable}
use Rattle.dlk_calculus.specs.Sequents.{IsFormula}
use Rattle.dlk_calculus.specs.Steps.{Step}
use Rattle.dlk_calculus.proofs.PlaceLaws.{place_cases, At_place}
use Rattle.dlk_kernel.specs.Taken.{Takes}
use Rattle.dlk_grammar.specs.declared.token.Dots.TheVariants.{Refused}
use Rattle.dlk_grammar.specs.declared.token.Form.TheVariants.{Formula}
use Rattle.dlk_machine.proofs.SomeText.{some_tree}
use Rattle.dlk_tacsyn.specs.Rows.{AreOfText, HasNames}
use Rattle.dlk_tacsyn.specs.Tactics.{Tactic, EachAtom}
use Rattle.dlk_tacsyn.specs.Strategies.{StrategyText}
use Rattle.dlk_elab.specs.Outcomes.{Outcome, Done, Fails, Budget, main_goals}
use Rattle.dlk_elab.proofs.FewSteps.{takes_length}
use Rattle.dlk_elab.proofs.MainGoals.{some_last}
use Rattle.dlk_recorder.specs.Terms.{term_text}
use Rattle.dlk_report.specs.Reports.{text_report}
use Rattle.dlk_session.specs.declared.reply.Reply.TheVariants as says
use Rattle.dlk_session.specs.Kept.{IsKept}
use Rattle.dlk_session.specs.Sessions.{State, Begins, no_goal, done, fails, spent, nothing, undone, Line, Apply, Undo, Show, Save, Answer, Replies, Shows}
use Rattle.dlk_session.specs.Sessions.{Turn, applies, undoes, shows, saves, Turns}
use Rattle.dlk_session.specs.Sessions.{none as no_turns, more as more_turns}
use Rattle.dlk_session.proofs.Stated.{starts}
use Rattle.dlk_strategy.specs.Runs.{RunsOn}
use Rattle.dlk_replies.specs.declared.form.Role.TheVariants.{Model, Term}
use Rattle.dlk_replies.specs.Forms.{limit_of}
use Rattle.dlk_replies.specs.Replies.{Reply}
use Rattle.dlk_replies.specs.Refusals.{text_refused}
use Rattle.dlk_jobs_check.specs.Terms.{ModelText}
use Rattle.dlk_jobs_check.proofs.Ends.{last_of}
use Rattle.dlk_jobs_check.proofs.Models.{model_small, model_shallow}
use Rattle.dlk_jobs_record.specs.Records.{term_too_long}
use Rattle.dlk_jobs_session.specs.Scripts.{ScriptLine, apply, undo, show, save, SayLines, none, more, Script, ScriptFault}
use Rattle.dlk_jobs_session.specs.Sessions.{script_refused, Plays, played, Sessions, bad_model, bad_line, too_long, keeps_none, writes}

-- strategies that can be run
abbrev pub IsRunnable : Line → Type 0
IsRunnable (Apply goal t) = AreOfText t × EachAtom HasNames t
IsRunnable Undo = Unit {0}
IsRunnable Show = Unit {0}
IsRunnable Save = Unit {0}

module _ (fitting : (bytes : List ℕ) (t : Tactic) → StrategyText bytes t → AreOfText t)
    (names : (bytes : List ℕ) (t : Tactic) → StrategyText bytes t → EachAtom HasNames t) where
  line_runs : (text : List ℕ) (line : Line) → ScriptLine text line → IsRunnable line
  line_runs _ _ (apply {strategy} text is said) = (fitting text strategy said, names text strategy said)
  line_runs _ _ undo = tt
  line_runs _ _ show = tt
  line_runs _ _ save = tt

  pub lines_run : (texts : List (List ℕ)) (lines : List Line) → SayLines texts lines → All IsRunnable lines
  lines_run _ _ none = All-nil IsRunnable
  lines_run _ _ (more {text} {texts} {line} {lines} first rest) = All-cons IsRunnable line lines (line_runs text line first) (lines_run texts lines rest)

module _ (some_outcome : (t : Tactic) (steps : List Step) (rows : List Provable) (goal used : ℕ) → AreOfText t → EachAtom HasNames t → Takes [] steps rows →
    IsPlace (main_goals rows) goal → (o : Outcome) × RunsOn t rows goal used o)
    (turn_kept : (now next : State) (line : Line) (answer : Answer) → IsKept now → Turn RunsOn now line answer next → IsKept next) where
  record SomeTurn (now : State) (line : Line) : Type 0 where
    answer : Answer
    next : State
    turn : Turn RunsOn now line answer next

  by_outcome : (now : State) (goal : ℕ) (t : Tactic) → IsPlace (main_goals now.rows) goal → (o : Outcome) → RunsOn t now.rows goal now.used o →
      SomeTurn now (Apply goal t)
  by_outcome now goal t there (Done made left) run = record { answer = _; next = _; turn = applies (done there run) }
  by_outcome now goal t there (Fails at why used) run = record { answer = _; next = _; turn = applies (fails there run) }
  by_outcome now goal t there (Budget at) run = record { answer = _; next = _; turn = applies (spent there run) }

  by_earlier : (now : State) (counts : List ℕ) → now.earlier ≡ counts → SomeTurn now Undo
  by_earlier now [] e = record { answer = _; next = _; turn = undoes (nothing e) }
  by_earlier now (n ∷ counts) e =
      let last = last_of (n ∷ counts) (omega arith) in
      let is : now.earlier ≡ last.0 ++ last.1 ∷ [] = e ∙ last.2 in
      record { answer = _; next = _; turn = undoes (undone last.0 last.1 is) }

  some_turn : (now : State) (line : Line) → IsRunnable line → IsKept now → SomeTurn now line
  some_turn now (Apply goal t) runs kept = elim (place_cases (main_goals now.rows) goal) [
    | inr out ↦ record { answer = Replies says.NoGoal; next = now; turn = applies (no_goal out) }
    | inl found ↦
        let there = At_place (main_goals now.rows) goal found.0 found.1 in
        let o = some_outcome t now.steps now.rows goal now.used runs.0 runs.1 kept.taken there in
        by_outcome now goal t there o.0 o.1
  ]
  some_turn now Undo runs kept = by_earlier now now.earlier refl
  some_turn now Show runs kept =
      let count = takes_length [] now.steps now.rows kept.taken in
      let some = kept.some in
      let last = some_last now.rows (omega (arith, count, some)) in
      record { answer = Shows (text_report last.0 (length now.rows)); next = now; turn = shows last.1 }
  some_turn now Save runs kept = record { answer = _; next = _; turn = saves }

  record SomeTurns (now : State) (lines : List Line) : Type 0 where
    answers : List Answer
    last : State
    turns : Turns RunsOn now lines answers last

  some_turns : (now : State) (lines : List Line) → All IsRunnable lines → IsKept now → SomeTurns now lines
  some_turns now [] runs kept = record { answers = []; last = now; turns = no_turns }
  some_turns now (line ∷ lines) runs kept =
      let first = some_turn now line (All-head IsRunnable line lines runs) kept in
      let rest = some_turns first.next lines (All-tail IsRunnable line lines runs) (turn_kept now first.next line first.answer kept first.turn) in
      record { answers = first.answer ∷ rest.answers; last = rest.last; turns = more_turns first.turn rest.turns }

  -- what is answered in the end
  by_saved : (model script : List ℕ) (answers : List Answer) (last : State) → Plays model script answers last → (saved : Option (List Step)) →
      last.saved ≡ saved →
      (reply : Reply) × Sessions model script reply
  by_saved model script answers last plays None e = (played answers last None, keeps_none answers last plays e)
  by_saved model script answers last plays (Some steps) e = elim (cases_lt (limit_of Term) (length (term_text steps))) [
    | inl long ↦ (term_too_long (length (term_text steps)), too_long answers last plays steps e long)
    | inr short ↦ (played answers last (Some (term_text steps)), writes answers last plays steps e short)
  ]

  module _ (formulas : (model : List ℕ) (f : Tree) → ModelText model f → IsFormula f)
      (begins_kept : (f : Tree) (now : State) → Begins f now → IsKept now)
      (runs : (bytes : List ℕ) (lines : List Line) → Script bytes lines → All IsRunnable lines)
      (script_or_fault : (bytes : List ℕ) → ((lines : List Line) × Script bytes lines) ⊎ ((n : ℕ) × ScriptFault bytes n)) (model script : List ℕ) where
    by_model : (f : Tree) → ModelText model f → (reply : Reply) × Sessions model script reply
    by_model f reads = elim (script_or_fault script) [
      | inr wrong ↦ (script_refused wrong.0, bad_line f reads wrong.0 wrong.1)
      | inl said ↦
          let first = starts f (formulas model f reads) (model_small model f reads) (model_shallow model f reads) in
          let played = some_turns first.0 said.0 (runs script said.0 said.1) (begins_kept f first.0 first.1) in
          by_saved model script played.answers played.last
          (record { formula = f; reads = reads; lines = said.0; says = said.1; first = first.0; begins = first.1; turns = played.turns }) played.last.saved refl
    ]

    pub some_session : (reply : Reply) × Sessions model script reply
    some_session = elim (some_tree Formula Refused model) [
      | inr fault ↦ (text_refused Model fault.0, bad_model fault.0 fault.1)
      | inl read ↦ by_model read.0 read.1
    ]
