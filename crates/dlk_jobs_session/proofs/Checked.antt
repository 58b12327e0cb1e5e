-- What a session writes is accepted by `check`.
use Rattle.std.proofs.Common.{◌≡◌, ℕ, ◌≤◌, List, [], length, None, Some, ap, subst, ◌∙◌, arith}
use Rattle.std.specs.List.{All}
use Rattle.std.proofs.lemmas.List.Elements.{All-nil, All-cons}
use Rattle.dlk_tree.specs.Trees.{Tree}
use Rattle.dlk_calculus.specs.Provables.{Provable}
use Rattle.dlk_calculus.specs.Sequents.{alone_right}
use Rattle.dlk_calculus.specs.Steps.{Step}
use Rattle.dlk_calculus.proofs.PlaceLaws.{at_one}
use Rattle.dlk_kernel.specs.Taken.{Takes}
use Rattle.dlk_tacsyn.specs.Rows.{HasNames}
use Rattle.dlk_tacsyn.specs.Tactics.{Tactic, EachAtom}
use Rattle.dlk_tacsyn.specs.Strategies.{StrategyText}
use Rattle.dlk_elab.proofs.FewSteps.{takes_length}
use Rattle.dlk_recorder.specs.Terms.{term_text, HasSymbols}
use Rattle.dlk_session.specs.Sessions.{State, Begins, Line, Answer, Turns}
use Rattle.dlk_strategy.specs.Runs.{RunsOn}
use Rattle.dlk_replies.specs.declared.form.Role.TheVariants.{Model, Term}
use Rattle.dlk_replies.specs.declared.reply.Layout.TheVariants.{Text}
use Rattle.dlk_replies.specs.declared.reply.Showing.TheVariants.{Reported}
use Rattle.dlk_replies.specs.Forms.{limit_of}
use Rattle.dlk_replies.specs.Replies.{Reply, printing}
use Rattle.dlk_replies.specs.Refusals.{text_refused}
use Rattle.dlk_replies.proofs.CarriedOut.{text_unwritten}
use Rattle.dlk_jobs_check.specs.Terms.{ModelText, proves}
use Rattle.dlk_jobs_check.specs.Checks.{Checks, reported}
use Rattle.dlk_jobs_check.proofs.Ends.{last_of, last_item}
use Rattle.dlk_jobs_record.specs.Records.{recorded, Records, writes, IsLast, IsWritten}
use Rattle.dlk_jobs_record.proofs.Symbols.{all_symbols}
use Rattle.dlk_jobs_session.specs.Scripts.{ScriptLine, apply, undo, show, save, SayLines, none, more}
use Rattle.dlk_jobs_session.specs.Sessions.{Plays, Sessions, bad_model, bad_line, too_long, keeps_none}
use Rattle.dlk_jobs_session.specs.Sessions.{writes as writes_term}
use Rattle.dlk_jobs_session.specs.Saved.{IsChecked}
use Rattle.dlk_jobs_session.proofs.SavedSteps.{IsProof, SavedIsProof, IsGood, IsNamed}

-- the names of a script's strategies are names
line_named : ((bytes : List ℕ) (t : Tactic) → StrategyText bytes t → EachAtom HasNames t) → (text : List ℕ) (line : Line) → ScriptLine text line → IsNamed line
line_named names _ _ (apply {strategy} text is says) = names text strategy says
line_named names _ _ undo = tt
line_named names _ _ show = tt
line_named names _ _ save = tt

pub lines_named : ((bytes : List ℕ) (t : Tactic) → StrategyText bytes t → EachAtom HasNames t) → (texts : List (List ℕ)) (lines : List Line) →
    SayLines texts lines → All IsNamed lines
lines_named names _ _ none = All-nil IsNamed
lines_named names _ _ (more {text} {texts} {line} {lines} first rest) =
    All-cons IsNamed line lines (line_named names text line first) (lines_named names texts lines rest)

-- what was saved, where a term is written
record Written (model script term : List ℕ) : Type 0 where
  answers : List Answer
  last : State
  plays : Plays model script answers last
  steps : List Step
  saved : last.saved ≡ Some steps
  short : length (term_text steps) ≤ limit_of Term
  term_is : term_text steps ≡ term

nothing_written : (reply : Reply) (term : List ℕ) → reply.written ≡ None → reply.written ≡ Some term → ⊥
nothing_written reply term nothing some = cc

written_by : (model script term : List ℕ) (reply : Reply) → Sessions model script reply → reply.written ≡ Some term → Written model script term
written_by model script term _ (bad_model why is) written = absurd (nothing_written (text_refused Model why) term (text_unwritten Model why) written)
written_by model script term _ (bad_line f reads n is) written = absurd cc
written_by model script term _ (too_long answers last plays steps saved long) written = absurd cc
written_by model script term _ (keeps_none answers last plays unsaved) written = absurd cc
written_by model script term _ (writes_term answers last plays steps saved short) written =
    record { answers = answers; last = last; plays = plays; steps = steps; saved = saved; short = short; term_is = cc }

module _ (good : (f : Tree) (now last : State) (lines : List Line) (answers : List Answer) → All IsNamed lines → Begins f now →
    Turns RunsOn now lines answers last → IsGood (alone_right f) last)
    (names : (bytes : List ℕ) (t : Tactic) → StrategyText bytes t → EachAtom HasNames t)
    (recorded_is_written : (steps : List Step) (rows : List Provable) (p : Provable) (reply : Reply) (term : List ℕ) → Takes [] steps rows →
    All HasSymbols steps → IsLast rows p → Records steps p reply → reply.written ≡ Some term → IsWritten term rows p reply)
    (written_is_checked : (model term : List ℕ) (f : Tree) (rows : List Provable) (p : Provable) (reply : Reply) → ModelText model f →
    p.conclusion ≡ proves f → IsWritten term rows p reply →
    (length term ≤ limit_of Term) × Checks (Reported Text) model term (printing reply.status reply.printed)) where
  saved_proof : (s : _) (saved : _) (steps : List Step) → SavedIsProof s saved → saved ≡ Some steps → (rows : List Provable) × IsProof s steps rows
  saved_proof s saved steps h e = subst (SavedIsProof s) e h

  pub written_checked : (model script term : List ℕ) (reply : Reply) → Sessions model script reply → reply.written ≡ Some term → IsChecked model script term
  written_checked model script term reply is written =
      let w = written_by model script term reply is written in
      let f = w.plays.formula in
      let ends = good f w.plays.first w.last w.plays.lines w.answers (lines_named names _ w.plays.lines w.plays.says) w.plays.begins w.plays.turns in
      let found = saved_proof (alone_right f) w.last.saved w.steps ends.saved w.saved in
      let rows = found.0 in
      let proof = found.1 in
      let count = takes_length [] w.steps rows proof.taken in
      let last = last_of rows (omega (arith, count, proof.some)) in
      let is_last : IsLast rows last.1 = record { before = last.0; rows_are = last.2 } in
      let shown : last.1.conclusion ≡ proves f =
      ap (λ (p : Provable). p.conclusion) (at_one rows (length rows) last.1 proof.shows.0 (last_item rows last.0 last.1 last.2) proof.shows.1)
      ∙ proof.shows.2 in
      let symbols = all_symbols w.steps proof.symbols in
      let file = recorded_is_written w.steps rows last.1 (recorded last.1 w.steps) term proof.taken symbols is_last (writes w.short) (ap Some w.term_is) in
      let checked = written_is_checked model term f rows last.1 (recorded last.1 w.steps) w.plays.reads shown file in
      record {
        answers = w.answers;
        left = w.last;
        plays = w.plays;
        steps = w.steps;
        saved = w.saved;
        rows = rows;
        taken = proof.taken;
        last = last.1;
        is_last = is_last;
        short = checked.0;
        checked = subst (λ n. Checks (Reported Text) model term (reported Text last.1 n)) (omega (arith, count)) checked.1;
      }
