-- Runs on a goal of rows: what their steps replace are symbols, and the last row shows what the last of those before shows.
use Rattle.std.proofs.Common.{◌≡◌, ℕ, List, [], ◌++◌, map, length, Option, refl, sym, ap, subst, ◌∙◌, append_assoc}
use Rattle.std.specs.List.{All}
use Rattle.std.proofs.lemmas.List.{append-nil}
use Rattle.std.proofs.lemmas.List.Elements.{All-nil, All-append}
use Rattle.dlk_tree.specs.Trees.{Tree}
use Rattle.dlk_calculus.specs.Places.{At}
use Rattle.dlk_calculus.specs.Sequents.{Sequent}
use Rattle.dlk_calculus.specs.Provables.{Provable, HasFormulas}
use Rattle.dlk_calculus.specs.Steps.{Step}
use Rattle.dlk_calculus.proofs.PlaceLaws.{at_one}
use Rattle.dlk_kernel.specs.Taken.{Takes}
use Rattle.dlk_tacsyn.specs.Rows.{HasNames}
use Rattle.dlk_tacsyn.specs.Tactics.{Atom, Tactic, EachAtom}
use Rattle.dlk_sequent.specs.declared.sequent.Place.{Place}
use Rattle.dlk_derive.specs.Plans.{Call}
use Rattle.dlk_derive.specs.Derives.{Plans, use_of}
use Rattle.dlk_library.specs.Expanded.{Expanded}
use Rattle.dlk_elab.specs.Atoms.{AtomSteps, Replaces}
use Rattle.dlk_elab.specs.Symbols.{ReplacesSymbols}
use Rattle.dlk_elab.proofs.StepSymbols.{taken_behind}
use Rattle.dlk_strategy.specs.Runs.{Progress, Done, RunsOn}
use Rattle.dlk_strategy.proofs.FixedAtoms.{all_named}
use Rattle.dlk_strategy.proofs.Keeping.{keeps_fate}
use Rattle.dlk_strategy.proofs.OnGoal.{fresh}
use Rattle.dlk_strategy.proofs.TakenSteps.{AnyAtom, uses_any, each_any}

-- the steps are taken in turn behind those that gave the rows, and what they replace are symbols
abbrev IsSymbolic : List Step → Progress → Type 0
IsSymbolic before now = Takes [] (before ++ now.steps) now.rows × All ReplacesSymbols now.steps

module _ (atom_taken : (rows : List Provable) (fact goal : ℕ) (atom : Atom) (steps : List Step) (after : List Provable) →
    AtomSteps rows fact goal atom steps after → Takes rows steps after)
    (taken_formulas : (steps : List Step) (rows : List Provable) → Takes [] steps rows → All HasFormulas rows)
    (atom_symbols : (rows : List Provable) (fact goal : ℕ) (atom : Atom) (steps : List Step) (after : List Provable) → All HasFormulas rows → HasNames atom →
    AtomSteps rows fact goal atom steps after → All ReplacesSymbols steps)
    (plan_names : (there : Option Tree) (path : List ℕ) (calls : List Call) → Plans there path calls → (byte : ℕ) (place : Place) →
    All HasNames (map (use_of byte place) calls))
    (expanded_names : (t u : Tactic) → EachAtom HasNames t → Expanded t u → EachAtom HasNames u) where
  symbolic_on : (before : List Step) (now : Progress) (goal : ℕ) (atom : Atom) (new : List Step) (rows : List Provable) → HasNames atom →
      IsSymbolic before now → AtomSteps now.rows (length now.rows) goal atom new rows →
      Takes [] (before ++ (now.steps ++ new)) rows × All ReplacesSymbols (now.steps ++ new)
  symbolic_on before now goal atom new rows names h by =
      let formulas = taken_formulas (before ++ now.steps) now.rows h.0 in
      let taken = taken_behind [] now.rows rows (before ++ now.steps) new h.0 (atom_taken now.rows (length now.rows) goal atom new rows by) in (
        subst (λ (xs : List Step). Takes [] xs rows) (append_assoc before now.steps new) taken,
        All-append ReplacesSymbols now.steps new h.1 (atom_symbols now.rows (length now.rows) goal atom new rows formulas names by),
      )

  pub on_symbols : (t : Tactic) (before : List Step) (rows : List Provable) (goal used : ℕ) (made : Progress) (left : ℕ) → EachAtom HasNames t →
      Takes [] before rows → RunsOn t rows goal used (Done made left) → All ReplacesSymbols made.steps
  on_symbols t before rows goal used made left names taken r =
      let named = expanded_names t r.expansion names r.expanded in
      let first = subst (λ (xs : List Step). Takes [] xs rows) (sym (append-nil before)) taken in
      (keeps_fate (IsSymbolic before) HasNames (λ now count h. h) (λ n atom h. all_named n atom.arguments h) plan_names (symbolic_on before) r.expansion 1
      goal named
      (fresh rows used) (Done made left) (first, All-nil ReplacesSymbols) r.run).1

-- there are rows, of which the last shows this sequent
abbrev ShowsLast : Sequent → List Provable → Type 0
ShowsLast s rows = (p : Provable) × At rows (length rows) p × (p.conclusion ≡ s)

module _ (atom_replaces : (rows : List Provable) (goal : ℕ) (atom : Atom) (steps : List Step) (after : List Provable) →
    AtomSteps rows (length rows) goal atom steps after → (new : List Sequent) × Replaces rows goal after new) where
  shows_on : (s : Sequent) (now : Progress) (goal : ℕ) (atom : Atom) (new : List Step) (rows : List Provable) → ShowsLast s now.rows →
      AtomSteps now.rows (length now.rows) goal atom new rows → ShowsLast s rows
  shows_on s now goal atom new rows h by =
      let r = (atom_replaces now.rows goal atom new rows by).1 in
      let same : r.old_last ≡ h.0 = at_one now.rows (length now.rows) r.old_last h.0 r.old_is h.1 in
      (r.new_last, r.new_is, r.conclusion ∙ ap (λ (p : Provable). p.conclusion) same ∙ h.2)

  pub on_shows : (t : Tactic) (rows : List Provable) (goal used : ℕ) (made : Progress) (left : ℕ) (p : Provable) → At rows (length rows) p →
      RunsOn t rows goal used (Done made left) → ShowsLast p.conclusion made.rows
  on_shows t rows goal used made left p h r =
      keeps_fate (λ (now : Progress). ShowsLast p.conclusion now.rows) AnyAtom (λ now count k. k) (λ n atom is. tt) uses_any
      (λ now here atom new after is k by. shows_on p.conclusion now here atom new after k by) r.expansion 1 goal (each_any r.expansion) (fresh rows used)
      (Done made left) (p, h, refl) r.run
