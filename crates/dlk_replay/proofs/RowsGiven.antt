-- First lines that record steps which are taken give their rows.
use Rattle.std.proofs.Common.{◌≡◌, ℕ, ◌+◌, true, List, [], ◌∷◌, ◌++◌, length, refl, sym, ap, subst, ◌∙◌, append_assoc, arith}
use Rattle.std.specs.Prelude.{MatchBool}
use Rattle.std.proofs.lemmas.List.{length_push, same_from_push}
use Rattle.dlk_tree.specs.Trees.{Tree}
use Rattle.dlk_calculus.specs.Provables.{Provable}
use Rattle.dlk_calculus.specs.Steps.{Step, StepOf}
use Rattle.dlk_kernel.specs.Taken.{Takes, none, more}
use Rattle.dlk_nodes.specs.Files.{head_line}
use Rattle.dlk_nodes.specs.Recorded.{Records, one_node, one_step}
use Rattle.dlk_nodes.specs.Recorded as recorded
use Rattle.dlk_nodes.proofs.Recordings.{recorded_state}
use Rattle.dlk_replay.specs.Files.{StepLines, no_lines, one_more, no_row, SaySteps}
use Rattle.dlk_replay.specs.Formats.{Said, TakesStep, TakesNone, Format, SaysNodeOrStep, begins_two, SaysIn}
use Rattle.dlk_replay.specs.Files as file
use Rattle.dlk_replay.specs.Formats as says_two
use Rattle.dlk_replay.proofs.OneSaid.{node_said, step_said}

-- ---- the last of several

push_some : {A : Type 0} (xs : List A) (x : A) → xs ++ x ∷ [] ≡ [] → ⊥
push_some xs x e =
    let long = length_push xs x in
    let none : length (xs ++ x ∷ []) ≡ 0 = ap length e in
    absurd (omega (arith, long, none))

-- what steps give of which the last is this one
pub record LastTaken (before : List Step) (step : Step) (rows : List Provable) : Type 0 where
  pub first : List Provable
  pub row : Provable
  pub rows_are : rows ≡ first ++ row ∷ []
  pub taken : Takes [] before first
  pub given : StepOf first step row

pub last_taken : (all : List Step) (rows : List Provable) → Takes [] all rows → (before : List Step) (step : Step) → all ≡ before ++ step ∷ [] →
    LastTaken before step rows
last_taken _ _ none before step e = absurd (push_some before step (sym e))
last_taken _ _ (more {steps} {mid} {step = its} {p} first given) before step e =
    let same = same_from_push steps before its step e in
    record {
      first = mid;
      row = p;
      rows_are = refl;
      taken = subst (λ l. Takes [] l mid) same.0 first;
      given = subst (λ s. StepOf mid s p) same.1 given;
    }

none_taken : (all : List Step) (rows : List Provable) → Takes [] all rows → all ≡ [] → rows ≡ []
none_taken _ _ none e = refl
none_taken _ _ (more {steps} {mid} {step} {p} first given) e = absurd (push_some steps step e)

pub as_many : (steps : List Step) (rows : List Provable) → Takes [] steps rows → length steps ≡ length rows
as_many _ _ none = refl
as_many _ _ (more {steps} {mid} {step} {p} first given) =
    length_push steps step ∙ ap (λ n. n + 1) (as_many steps mid first) ∙ sym (length_push mid p)

-- ---- the first line stays the first

abbrev pub BeginsTwo : List (List ℕ) → Type 0
BeginsTwo before = (line : List ℕ) → begins_two (before ++ line ∷ []) ≡ true

begins_push : (before : List (List ℕ)) (line : List ℕ) → BeginsTwo before → BeginsTwo (before ++ line ∷ [])
begins_push [] line h = λ l. h line
begins_push (first ∷ before) line h = h

pub begins : (lines : List (List ℕ)) (nodes : List Tree) (steps : List Step) → Records lines nodes steps → BeginsTwo lines
begins _ _ _ recorded.head = λ line. refl
begins _ _ _ (one_node {lines} {nodes} {steps} {line} before is) = begins_push lines line (begins lines nodes steps before)
begins _ _ _ (one_step {lines} {nodes} {steps} {line} before is) = begins_push lines line (begins lines nodes steps before)

module _ (Other : Format) where
  -- in such a file each line says what it says in version 2
  pub in_two : (before : List (List ℕ)) (line : List ℕ) (s : Said) → begins_two (before ++ line ∷ []) ≡ true → SaysNodeOrStep before line s →
      SaysIn Other before line s
  in_two before line s h is = subst (λ b. MatchBool b (SaysNodeOrStep before line s) (Other before line s)) (sym h) is

  -- the law
  pub rows_given : (lines : List (List ℕ)) (nodes : List Tree) (steps : List Step) (rows : List Provable) → Records lines nodes steps →
      Takes [] steps rows → (last : ℕ) × StepLines (SaysIn Other) lines rows last
  rows_given _ _ _ rows recorded.head taken =
      let e = none_taken [] rows taken refl in
      let one = no_row {line = head_line} no_lines (in_two [] head_line TakesNone refl says_two.head) in
      (0, subst (λ r. StepLines (SaysIn Other) (head_line ∷ []) r 0) (sym e) one)
  rows_given _ _ _ rows (one_node {lines} {nodes} {steps} {line} {t} before is) taken =
      let w = rows_given lines nodes steps rows before taken in
      let said = node_said lines nodes (length steps) line t (recorded_state lines nodes steps before) is in
      (w.0, no_row w.1 (in_two lines line TakesNone (begins lines nodes steps before line) said))
  rows_given _ _ _ rows (one_step {lines} {nodes} {steps} {line} {step} before is) taken =
      let l = last_taken (steps ++ step ∷ []) rows taken steps step refl in
      let w = rows_given lines nodes steps l.first before l.taken in
      let said = step_said lines nodes (length steps) line step (recorded_state lines nodes steps before) is in
      let all : StepLines (SaysIn Other) (lines ++ line ∷ []) (l.first ++ l.row ∷ []) (length lines + 1) =
      one_more w.1 (in_two lines line (TakesStep step) (begins lines nodes steps before line) said) l.given in
      (length lines + 1, subst (λ r. StepLines (SaysIn Other) (lines ++ line ∷ []) r (length lines + 1)) (sym l.rows_are) all)

  -- where the last line is that of the last step, it gives the last row
  pub rows_given_at_last : (lines : List (List ℕ)) (nodes : List Tree) (steps : List Step) (rows : List Provable) → recorded.EndsInStep lines nodes steps →
      Takes [] steps rows → StepLines (SaysIn Other) lines rows (length lines)
  rows_given_at_last lines nodes steps rows e taken =
      let l = last_taken steps rows taken e.before e.step e.steps_are in
      let w = rows_given e.front nodes e.before l.first e.recorded l.taken in
      let said = step_said e.front nodes (length e.before) e.line e.step (recorded_state e.front nodes e.before e.recorded) e.is_last in
      let all : StepLines (SaysIn Other) (e.front ++ e.line ∷ []) (l.first ++ l.row ∷ []) (length e.front + 1) =
      one_more w.1 (in_two e.front e.line (TakesStep e.step) (begins e.front nodes e.before e.recorded e.line) said) l.given in
      let last : length e.front + 1 ≡ length lines = sym (ap length e.lines_are ∙ length_push e.front e.line) in
      subst (λ ls. StepLines (SaysIn Other) ls rows (length lines)) (sym e.lines_are)
      (subst (λ r. StepLines (SaysIn Other) (e.front ++ e.line ∷ []) r (length lines)) (sym l.rows_are)
      (subst (StepLines (SaysIn Other) (e.front ++ e.line ∷ []) (l.first ++ l.row ∷ [])) last all))

  -- they say these steps, and behind them come those of the other lines
  pub steps_said : (lines : List (List ℕ)) (nodes : List Tree) (steps : List Step) → Records lines nodes steps → (left : List (List ℕ)) (behind : List Step) →
      SaySteps (SaysIn Other) lines left behind → SaySteps (SaysIn Other) [] (lines ++ left) (steps ++ behind)
  steps_said _ _ _ recorded.head left behind says = file.none (in_two [] head_line TakesNone refl says_two.head) says
  steps_said _ _ _ (one_node {lines} {nodes} {steps} {line} {t} before is) left behind says =
      let said = in_two lines line TakesNone (begins lines nodes steps before line)
      (node_said lines nodes (length steps) line t (recorded_state lines nodes steps before) is) in
      let all = steps_said lines nodes steps before (line ∷ left) behind (file.none said says) in
      subst (λ ls. SaySteps (SaysIn Other) [] ls (steps ++ behind)) (sym (append_assoc lines (line ∷ []) left)) all
  steps_said _ _ _ (one_step {lines} {nodes} {steps} {line} {step} before is) left behind says =
      let said = in_two lines line (TakesStep step) (begins lines nodes steps before line)
      (step_said lines nodes (length steps) line step (recorded_state lines nodes steps before) is) in
      let all = steps_said lines nodes steps before (line ∷ left) (step ∷ behind) (file.more said says) in
      subst (λ ls. SaySteps (SaysIn Other) [] ls ((steps ++ step ∷ []) ++ behind)) (sym (append_assoc lines (line ∷ []) left))
      (subst (SaySteps (SaysIn Other) [] (lines ++ line ∷ left)) (sym (append_assoc steps (step ∷ []) behind)) all)
