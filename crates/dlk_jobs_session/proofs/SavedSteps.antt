-- What a session saves: steps that are taken in turn, whose last row shows the model's formula.
use Rattle.std.proofs.Common.{◌≡◌, ℕ, ◌≤◌, List, [], ◌∷◌, ◌++◌, take, drop, length, Option, Some, None, refl, sym, ap, subst, ◌∙◌, arith, inl, inr, length-take}
use Rattle.std.specs.List.{All}
use Rattle.std.proofs.lemmas.List.Elements.{All-nil, All-cons, All-head, All-tail, All-push, All-append, All-weaker, All-take}
use Rattle.std.proofs.lemmas.List.{take-append-drop}
use Rattle.dlk_tree.specs.Trees.{Tree}
use Rattle.dlk_calculus.specs.Places.{At}
use Rattle.dlk_calculus.specs.Provables.{Provable}
use Rattle.dlk_calculus.specs.Sequents.{Sequent, alone_right}
use Rattle.dlk_calculus.specs.Steps.{Step, Start, Gives, start}
use Rattle.dlk_calculus.proofs.PlaceLaws.{at_one, At-more, place_cases, All-front, All-behind}
use Rattle.dlk_kernel.specs.Taken.{Takes}
use Rattle.dlk_tacsyn.specs.Rows.{HasNames}
use Rattle.dlk_tacsyn.specs.Tactics.{Tactic, EachAtom}
use Rattle.dlk_elab.specs.Outcomes.{Progress, Done}
use Rattle.dlk_elab.specs.Symbols.{ReplacesSymbols}
use Rattle.dlk_elab.proofs.FewSteps.{takes_length}
use Rattle.dlk_strategy.specs.Runs.{RunsOn}
use Rattle.dlk_session.specs.declared.reply.Reply.{Reply}
use Rattle.dlk_session.specs.Kept.{AreEarlier, none as none_earlier, more as one_earlier, IsKept}
use Rattle.dlk_session.specs.Sessions.{State, Begins, Applies, no_goal, done, fails, spent, Undoes, nothing, undone, Line, Apply, Undo, Show, Save, Answer}
use Rattle.dlk_session.specs.Sessions.{Turn, applies, undoes, shows as shows_row, saves, Turns, none, more}
use Rattle.dlk_session.proofs.Turning.{rows_behind, last_earlier}

-- the row of this number shows the sequent
abbrev pub ShowsAt : Sequent → List Provable → ℕ → Type 0
ShowsAt s rows n = (p : Provable) × At rows n p × (p.conclusion ≡ s)

-- steps that may be saved
pub record IsProof (s : Sequent) (steps : List Step) (rows : List Provable) : Type 0 where
  pub taken : Takes [] steps rows
  pub some : 1 ≤ length steps
  pub symbols : All ReplacesSymbols steps
  pub shows : ShowsAt s rows (length rows)

abbrev pub SavedIsProof : Sequent → Option (List Step) → Type 0
SavedIsProof s None = Unit {0}
SavedIsProof s (Some steps) = (rows : List Provable) × IsProof s steps rows

-- the state has such steps, and has saved such
pub record IsGood (s : Sequent) (now : State) : Type 0 where
  pub kept : IsKept now
  pub proof : IsProof s now.steps now.rows
  pub earlier : All (ShowsAt s now.rows) now.earlier
  pub saved : SavedIsProof s now.saved

start_shows : (s : Sequent) (rows : List Provable) (p : Provable) (step : Step) → step ≡ Start s → Gives rows step p → p.conclusion ≡ s
start_shows s rows _ _ e (start t is) = cc
start_shows s rows p _ e _ = absurd (cc e)

-- ---- places of rows

more_rows : (s : Sequent) (rows new : List Provable) (n : ℕ) → ShowsAt s rows n → ShowsAt s (rows ++ new) n
more_rows s rows new n h = (h.0, At-more rows new n h.0 h.1, h.2)

fewer_rows : (s : Sequent) (rows : List Provable) (count n : ℕ) → 1 ≤ n → n ≤ count → count ≤ length rows → ShowsAt s rows n → ShowsAt s (take count rows) n
fewer_rows s rows count n some few within h = elim (place_cases (take count rows) n) [
  | inr out ↦ absurd (out (some, omega (arith, few, within, length-take count rows)))
  | inl found ↦
      let there : At rows n found.0 = subst (λ (l : List Provable). At l n found.0) (take-append-drop count rows)
      (At-more (take count rows) (drop count rows) n found.0 found.1) in
      let same : found.0 ≡ h.0 = at_one rows n found.0 h.0 there h.1 in
      (found.0, found.1, ap (λ (p : Provable). p.conclusion) same ∙ h.2)
]

all_fewer : (s : Sequent) (rows : List Provable) (count most : ℕ) (counts : List ℕ) → AreEarlier counts most → most ≤ count → count ≤ length rows →
    All (ShowsAt s rows) counts → All (ShowsAt s (take count rows)) counts
all_fewer s rows count most _ none_earlier few within h = All-nil (ShowsAt s (take count rows))
all_fewer s rows count most _ (one_earlier {before} {count = n} rest some most_n) few within h =
    let front = all_fewer s rows count n before rest (omega (arith, most_n, few)) within (All-front (ShowsAt s rows) before (n ∷ []) h) in
    let last = All-head (ShowsAt s rows) n [] (All-behind (ShowsAt s rows) before (n ∷ []) h) in
    All-push (ShowsAt s (take count rows)) before n front (fewer_rows s rows count n some (omega (arith, most_n, few)) within last)

-- the first steps, up to one whose row shows the sequent
take_all_symbols : (n : ℕ) (steps : List Step) → All ReplacesSymbols steps → All ReplacesSymbols (take n steps)
take_all_symbols n steps h = All-take ReplacesSymbols n steps h

-- ---- states

pub begins_good : (f : Tree) (now : State) → Begins f now → IsKept now → IsGood (alone_right f) now
begins_good f now begins kept =
    let s = alone_right f in
    let p = begins.provable in
    let first : State = record { steps = Start s ∷ []; rows = p ∷ []; earlier = []; used = 0; saved = None } in
    let symbols : All ReplacesSymbols (Start s ∷ []) =
    All-cons ReplacesSymbols (Start s) [] (λ fact pairs e. absurd (cc e)) (All-nil ReplacesSymbols) in
    let shows : ShowsAt s (p ∷ []) 1 = (p, refl, start_shows s [] p (Start s) refl begins.start.given) in
    let good : IsKept first → IsGood s first = λ k. record {
      kept = k;
      proof = record { taken = k.taken; some = k.some; symbols = symbols; shows = shows };
      earlier = All-nil (ShowsAt s (p ∷ []));
      saved = tt;
    } in
    subst (IsGood s) (sym begins.is) (good (subst IsKept begins.is kept))

-- the names of a line's strategy are names
abbrev pub IsNamed : Line → Type 0
IsNamed (Apply goal t) = EachAtom HasNames t
IsNamed Undo = Unit {0}
IsNamed Show = Unit {0}
IsNamed Save = Unit {0}

module _ (taken : (t : Tactic) (rows : List Provable) (goal used : ℕ) (made : Progress) (left : ℕ) → RunsOn t rows goal used (Done made left) →
    Takes rows made.steps made.rows)
    (symbols : (t : Tactic) (before : List Step) (rows : List Provable) (goal used : ℕ) (made : Progress) (left : ℕ) → EachAtom HasNames t →
    Takes [] before rows → RunsOn t rows goal used (Done made left) → All ReplacesSymbols made.steps)
    (concludes : (t : Tactic) (rows : List Provable) (goal used : ℕ) (made : Progress) (left : ℕ) (p : Provable) → At rows (length rows) p →
    RunsOn t rows goal used (Done made left) → (q : Provable) × At made.rows (length made.rows) q × (q.conclusion ≡ p.conclusion))
    (turn_kept : (now next : State) (line : Line) (answer : Answer) → IsKept now → Turn RunsOn now line answer next → IsKept next) where
  apply_good : (s : Sequent) (goal : ℕ) (t : Tactic) (now next : State) (says : Reply) → EachAtom HasNames t → IsGood s now → IsKept next →
      Applies RunsOn goal t now says next → IsGood s next
  apply_good s goal t now _ _ named good kept (no_goal out) = good
  apply_good s goal t now _ _ named good kept (done {made} {left} there run) =
      let new = rows_behind now.rows made.rows made.steps (taken t now.rows goal now.used made left run) in
      let count = takes_length [] now.steps now.rows good.proof.taken in
      let last = concludes t now.rows goal now.used made left good.proof.shows.0 good.proof.shows.1 run in
      let old_rows : ShowsAt s now.rows (length now.steps) =
      subst (λ n. ShowsAt s now.rows n) (omega (arith, count)) good.proof.shows in
      let earlier : All (ShowsAt s now.rows) (now.earlier ++ length now.steps ∷ []) =
      All-push (ShowsAt s now.rows) now.earlier (length now.steps) good.earlier old_rows in
      record {
        kept = kept;
        proof = record {
          taken = kept.taken;
          some = kept.some;
          symbols = All-append ReplacesSymbols now.steps made.steps good.proof.symbols
              (symbols t now.steps now.rows goal now.used made left named good.proof.taken run);
          shows = (last.0, last.1, last.2 ∙ good.proof.shows.2);
        };
        earlier = subst (λ (rs : List Provable). All (ShowsAt s rs) (now.earlier ++ length now.steps ∷ [])) (sym new.1)
            (All-weaker (ShowsAt s now.rows) (ShowsAt s (now.rows ++ new.0)) (more_rows s now.rows new.0) (now.earlier ++ length now.steps ∷ []) earlier);
        saved = good.saved;
      }
  apply_good s goal t now _ _ named good kept (fails there run) = record { kept = kept; proof = good.proof; earlier = good.earlier; saved = good.saved }
  apply_good s goal t now _ _ named good kept (spent there run) = record { kept = kept; proof = good.proof; earlier = good.earlier; saved = good.saved }

  undo_good : (s : Sequent) (now next : State) (says : Reply) → IsGood s now → IsKept next → Undoes now says next → IsGood s next
  undo_good s now _ _ good kept (nothing e) = good
  undo_good s now _ _ good kept (undone before count e) =
      let was = last_earlier now.earlier before count (length now.steps) good.kept.earlier e in
      let rows = takes_length [] now.steps now.rows good.proof.taken in
      let within : count ≤ length now.rows = omega (arith, was.within, rows) in
      let all = subst (All (ShowsAt s now.rows)) e good.earlier in
      let last = All-head (ShowsAt s now.rows) count [] (All-behind (ShowsAt s now.rows) before (count ∷ []) all) in
      let there = fewer_rows s now.rows count count was.some (omega arith) within last in
      let number : count ≡ length (take count now.rows) = omega (arith, within, length-take count now.rows) in
      record {
        kept = kept;
        proof = record {
          taken = kept.taken;
          some = kept.some;
          symbols = take_all_symbols count now.steps good.proof.symbols;
          shows = subst (λ n. ShowsAt s (take count now.rows) n) number there;
        };
        earlier = all_fewer s now.rows count count before was.earlier (omega arith) within (All-front (ShowsAt s now.rows) before (count ∷ []) all);
        saved = good.saved;
      }

  turn_good : (s : Sequent) (now next : State) (line : Line) (answer : Answer) → IsNamed line → IsGood s now → IsKept next → Turn RunsOn now line answer next →
      IsGood s next
  turn_good s now _ _ _ named good kept (applies {goal} {strategy} {says} {next} h) = apply_good s goal strategy now next says named good kept h
  turn_good s now _ _ _ named good kept (undoes {says} {next} h) = undo_good s now next says good kept h
  turn_good s now _ _ _ named good kept (shows_row at) = good
  turn_good s now _ _ _ named good kept saves =
      record { kept = kept; proof = good.proof; earlier = good.earlier; saved = (now.rows, good.proof) }

  pub turns_good : (s : Sequent) (now last : State) (lines : List Line) (answers : List Answer) → All IsNamed lines → IsGood s now →
      Turns RunsOn now lines answers last → IsGood s last
  turns_good s _ _ _ _ named good none = good
  turns_good s _ _ _ _ named good (more {now} {next} {last} {line} {lines} {answer} {answers} turn rest) =
      let here = turn_good s now next line answer (All-head IsNamed line lines named) good (turn_kept now next line answer good.kept turn) turn in
      turns_good s next last lines answers (All-tail IsNamed line lines named) here rest
