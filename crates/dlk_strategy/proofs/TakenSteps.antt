-- The steps of a run are taken in turn, what they replace are symbols, and the last row shows the formula.
use Rattle.std.proofs.Common.{◌≡◌, ℕ, List, [], ◌∷◌, ◌++◌, map, length, Option, refl, ap, ◌∙◌}
use Rattle.std.specs.List.{All}
use Rattle.std.proofs.lemmas.List.Elements.{All-nil, All-cons, All-append}
use Rattle.dlk_tree.specs.Trees.{Tree}
use Rattle.dlk_calculus.specs.Places.{At}
use Rattle.dlk_calculus.specs.Sequents.{alone_right}
use Rattle.dlk_calculus.specs.Provables.{Provable, HasFormulas}
use Rattle.dlk_calculus.specs.Steps.{Step, Start, Gives}
use Rattle.dlk_calculus.specs.Steps.{start}
use Rattle.dlk_calculus.proofs.PlaceLaws.{at_one}
use Rattle.dlk_kernel.specs.Taken.{Takes}
use Rattle.dlk_kernel.specs.Taken.{none as no_step, more as one_step}
use Rattle.dlk_tacsyn.specs.Rows.{HasNames}
use Rattle.dlk_tacsyn.specs.Tactics.{Atom, Tactic, Choice, Sequence, Branch, Repeat, One, Tactics, no_parts, part, EachAtom, EachAtomOf}
use Rattle.dlk_sequent.specs.declared.sequent.Place.{Place}
use Rattle.dlk_derive.specs.Plans.{Call}
use Rattle.dlk_derive.specs.Derives.{Plans, use_of}
use Rattle.dlk_elab.specs.Atoms.{AtomSteps, Replaces}
use Rattle.dlk_elab.specs.Symbols.{ReplacesSymbols}
use Rattle.dlk_elab.proofs.StepSymbols.{taken_behind}
use Rattle.dlk_strategy.specs.Runs.{Progress, Done, RunsPlain}
use Rattle.dlk_strategy.proofs.FixedAtoms.{all_named}
use Rattle.dlk_strategy.proofs.Keeping.{keeps_fate}

-- the rows are what the steps give in turn
abbrev pub IsTaken : Progress → Type 0
IsTaken now = Takes [] now.steps now.rows

-- and what the steps replace are symbols
abbrev IsSymbolic : Progress → Type 0
IsSymbolic now = IsTaken now × All ReplacesSymbols now.steps

-- there are rows, of which the last shows the formula
abbrev Shows : Tree → Progress → Type 0
Shows formula now = (p : Provable) × At now.rows (length now.rows) p × (p.conclusion ≡ alone_right formula)

abbrev pub AnyAtom : Atom → Type 0
AnyAtom atom = Unit {0}

are_any : (atoms : List Atom) → All AnyAtom atoms
are_any [] = All-nil AnyAtom
are_any (atom ∷ rest) = All-cons AnyAtom atom rest tt (are_any rest)

pub uses_any : (there : Option Tree) (path : List ℕ) (calls : List Call) → Plans there path calls → (byte : ℕ) (place : Place) →
    All AnyAtom (map (use_of byte place) calls)
uses_any there path calls h byte place = are_any (map (use_of byte place) calls)

mutual
  pub each_any : (t : Tactic) → EachAtom AnyAtom t
  each_any (Choice parts) = all_any parts
  each_any (Sequence parts) = all_any parts
  each_any (Branch at parts) = all_any parts
  each_any (Repeat body times) = each_any body
  each_any (One atom) = tt

  all_any : (parts : Tactics) → EachAtomOf AnyAtom parts
  all_any no_parts = tt
  all_any (part t rest) = (each_any t, all_any rest)

-- what the step that states the formula makes
abbrev begun : Tree → Provable → Progress
begun formula p = record { steps = Start (alone_right formula) ∷ []; rows = p ∷ []; used = 0 }

start_shows : (formula : Tree) (rows : List Provable) (p : Provable) (step : Step) → step ≡ Start (alone_right formula) → Gives rows step p →
    p.conclusion ≡ alone_right formula
start_shows formula rows _ _ e (start s is) = cc
start_shows formula rows p _ e _ = absurd (cc e)

module _ (atom_taken : (rows : List Provable) (fact goal : ℕ) (atom : Atom) (steps : List Step) (after : List Provable) →
    AtomSteps rows fact goal atom steps after → Takes rows steps after) where
  pub taken_on : (now : Progress) (goal : ℕ) (atom : Atom) (new : List Step) (rows : List Provable) → IsTaken now →
      AtomSteps now.rows (length now.rows) goal atom new rows → Takes [] (now.steps ++ new) rows
  taken_on now goal atom new rows taken made = taken_behind [] now.rows rows now.steps new taken (atom_taken now.rows (length now.rows) goal atom new rows made)

  pub run_taken : (t : Tactic) (formula : Tree) (made : Progress) (left : ℕ) → RunsPlain t formula (Done made left) → Takes [] made.steps made.rows
  run_taken t formula made left r =
      keeps_fate IsTaken AnyAtom (λ now used taken. taken) (λ n atom is. tt) uses_any
      (λ now goal atom new rows is taken by. taken_on now goal atom new rows taken by)
      t 1 1 (each_any t) (begun formula r.provable) (Done made left) (one_step no_step r.start) r.run

  module _ (taken_formulas : (steps : List Step) (rows : List Provable) → Takes [] steps rows → All HasFormulas rows)
      (atom_symbols : (rows : List Provable) (fact goal : ℕ) (atom : Atom) (steps : List Step) (after : List Provable) → All HasFormulas rows → HasNames atom →
      AtomSteps rows fact goal atom steps after → All ReplacesSymbols steps)
      (plan_names : (there : Option Tree) (path : List ℕ) (calls : List Call) → Plans there path calls → (byte : ℕ) (place : Place) →
      All HasNames (map (use_of byte place) calls)) where
    symbolic_on : (now : Progress) (goal : ℕ) (atom : Atom) (new : List Step) (rows : List Provable) → HasNames atom → IsSymbolic now →
        AtomSteps now.rows (length now.rows) goal atom new rows → Takes [] (now.steps ++ new) rows × All ReplacesSymbols (now.steps ++ new)
    symbolic_on now goal atom new rows names h by =
        let formulas = taken_formulas now.steps now.rows h.0 in (
          taken_on now goal atom new rows h.0 by,
          All-append ReplacesSymbols now.steps new h.1 (atom_symbols now.rows (length now.rows) goal atom new rows formulas names by),
        )

    pub run_symbols : (t : Tactic) (formula : Tree) (made : Progress) (left : ℕ) → EachAtom HasNames t → RunsPlain t formula (Done made left) →
        All ReplacesSymbols made.steps
    run_symbols t formula made left names r =
        let first : ReplacesSymbols (Start (alone_right formula)) = λ fact pairs e. absurd (cc e) in
        let all = All-cons ReplacesSymbols (Start (alone_right formula)) [] first (All-nil ReplacesSymbols) in
        (keeps_fate IsSymbolic HasNames (λ now used h. h) (λ n atom h. all_named n atom.arguments h) plan_names symbolic_on t 1 1 names
        (begun formula r.provable) (Done made left) (one_step no_step r.start, all) r.run).1

-- what an atom leaves of the last row shows the formula, too
module _ (atom_replaces : (rows : List Provable) (goal : ℕ) (atom : Atom) (steps : List Step) (after : List Provable) →
    AtomSteps rows (length rows) goal atom steps after → (new : _) × Replaces rows goal after new) where
  shows_on : (formula : Tree) (now : Progress) (goal : ℕ) (atom : Atom) (new : List Step) (rows : List Provable) → Shows formula now →
      AtomSteps now.rows (length now.rows) goal atom new rows → (p : Provable) × At rows (length rows) p × (p.conclusion ≡ alone_right formula)
  shows_on formula now goal atom new rows h by =
      let r = (atom_replaces now.rows goal atom new rows by).1 in
      let same : r.old_last ≡ h.0 = at_one now.rows (length now.rows) r.old_last h.0 r.old_is h.1 in
      (r.new_last, r.new_is, r.conclusion ∙ ap (λ (p : Provable). p.conclusion) same ∙ h.2)

  pub run_shows : (t : Tactic) (formula : Tree) (made : Progress) (left : ℕ) → RunsPlain t formula (Done made left) → Shows formula made
  run_shows t formula made left r =
      let shown = start_shows formula [] r.provable (Start (alone_right formula)) refl r.start.given in
      let first : Shows formula (begun formula r.provable) = (r.provable, refl, shown) in
      keeps_fate (Shows formula) AnyAtom (λ now used h. h) (λ n atom is. tt) uses_any
      (λ now goal atom new rows is h by. shows_on formula now goal atom new rows h by)
      t 1 1 (each_any t) (begun formula r.provable) (Done made left) first r.run
