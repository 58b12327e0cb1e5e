-- What stays true of rows when the store grows.
use Rattle.std.proofs.Common.{◌≡◌, ℕ, Bool, ◌<◌, ◌≤◌, List, [], ◌∷◌, ◌++◌, length, length-append, length-take, take, sym, ap, subst, ◌∙◌, arith}
use Rattle.std.specs.List.{All}
use Rattle.std.proofs.lemmas.List.{take-map, map-append, length-map}
use Rattle.std.proofs.lemmas.List.Elements.{All-weaker, All-push, All-take}
use Rattle.std.proofs.Math.Seq.{take-append_seam}
use Rattle.dlk_tree.specs.Trees.{Tree}
use Rattle.dlk_store.specs.Stores.{Keeps}
use Rattle.dlk_calculus.specs.Provables.{HasFormulas}
use Rattle.dlk_calculus.specs.declared.reason.Reason.TheVariants.{LinesFull}
use Rattle.dlk_calculus.specs.Limits.{most_rows}
use Rattle.dlk_calculus.specs.Limited.{IsLimited}
use Rattle.dlk_calculus.specs.Steps.{Step, Gives, IsWithin, History, Derives, Fault, StepOf, Adds}
use Rattle.dlk_calculus.proofs.LimitLaws.{StepOf-within, step_limited, rows_fault}
use Rattle.dlk_calculus.proofs.Histories.{History-derives, History-more, History-take}
use Rattle.dlk_calculus.proofs.Formulas.{Derives-formulas}
use Rattle.dlk_sequent.specs.Sequents.{IsKnown}
use Rattle.dlk_sequent.proofs.Kept.{IsId-kept, map-agree, sequent-kept, sequents-kept, IsKnown-kept}
use Rattle.dlk_kernel.specs.declared.row.Row.{Row}
use Rattle.dlk_kernel.specs.Kernel.{State, provable_at, provables_at, IsKnownRow, AreSoundRows, SameRows, ExtendsRows}
use Rattle.dlk_kernel.specs.declared.axioms.NamedFormula.{NamedFormula}
use Rattle.dlk_kernel.specs.declared.named.Named.{Named}
use Rattle.dlk_kernel.specs.declared.named_rules.NamedRule.{NamedRule}
use Rattle.dlk_kernel.specs.Named.{IsFormulaOf, AreFormulas, IsRowNamed, AreRows, AreNamed}
use Rattle.dlk_kernel.specs.Sound.{IsSound}

module _ (old new : List Tree) (keeps : Keeps old new) where
  provable_kept : (row : Row) → IsKnownRow old row → provable_at new row ≡ provable_at old row
  provable_kept row h =
      let conclusion = sequent-kept keeps row.conclusion h.conclusion in
      let goals = sequents-kept keeps row.goals h.goals in
      let leaves = sequents-kept keeps row.leaves h.leaves in
      λ i. record { conclusion = conclusion i; goals = goals i; leaves = leaves i }

  pub row_kept : (row : Row) → IsKnownRow old row → IsKnownRow new row
  row_kept row h = record {
    conclusion = IsKnown-kept keeps row.conclusion h.conclusion;
    goals = All-weaker (IsKnown old) (IsKnown new) (IsKnown-kept keeps) row.goals h.goals;
    leaves = All-weaker (IsKnown old) (IsKnown new) (IsKnown-kept keeps) row.leaves h.leaves;
  }

  -- the rows stand for what they stood for
  pub provables_kept : (rows : List Row) → All (IsKnownRow old) rows → provables_at new rows ≡ provables_at old rows
  provables_kept rows h =
      map-agree (provable_at new) (provable_at old) rows (All-weaker (IsKnownRow old) (λ row. provable_at new row ≡ provable_at old row) provable_kept rows h)

  pub sound_kept : (rows : List Row) → AreSoundRows old rows → AreSoundRows new rows
  sound_kept rows h = record {
    known = All-weaker (IsKnownRow old) (IsKnownRow new) row_kept rows h.known;
    history = subst History (sym (provables_kept rows h.known)) h.history;
    limited = subst (All IsLimited) (sym (provables_kept rows h.known)) h.limited;
    few = h.few;
  }

  formula_kept : (n : NamedFormula) → IsFormulaOf old n.name n.formula → IsFormulaOf new n.name n.formula
  formula_kept n h = record {
    found = h.found;
    named = h.named;
    stands = record { known = IsId-kept keeps n.formula h.stands.known; tree_is = keeps.same n.formula h.stands.known ∙ h.stands.tree_is };
  }

  pub formulas_kept : (all : List NamedFormula) → AreFormulas old all → AreFormulas new all
  formulas_kept all h = All-weaker (λ (n : NamedFormula). IsFormulaOf old n.name n.formula) (λ n. IsFormulaOf new n.name n.formula) formula_kept all h

  named_row_kept : (n : NamedRule) → IsRowNamed old n.name n.row → IsRowNamed new n.name n.row
  named_row_kept n h = record {
    found = h.found;
    named = h.named;
    is_row = record { known = row_kept n.row h.is_row.known; stands = provable_kept n.row h.is_row.known ∙ h.is_row.stands };
  }

  pub named_rows_kept : (all : List NamedRule) → AreRows old all → AreRows new all
  named_rows_kept all h = All-weaker (λ (n : NamedRule). IsRowNamed old n.name n.row) (λ n. IsRowNamed new n.name n.row) named_row_kept all h

  pub named_kept : (named : Named) → AreNamed old named → AreNamed new named
  named_kept named h = record { axioms = formulas_kept named.axioms h.axioms; rules = named_rows_kept named.rules h.rules }

  pub still_sound : (unique : Bool) (rows : List Row) (before now : Named) → IsSound unique old rows before → AreNamed new now → IsSound unique new rows now
  still_sound unique rows before now h are_named = record { is_unique = h.is_unique; are_sound = sound_kept rows h.are_sound; are_named = are_named }

  -- a row that a step gives comes last
  module _ (rows after : List Row) (row : Row) (sound : AreSoundRows old rows) (step : Step) (given : Gives (provables_at old rows) step (provable_at new row))
      (within : IsWithin step (provable_at new row)) (room : length rows < most_rows) (added : after ≡ rows ++ row ∷ []) where
    after_is : provables_at new after ≡ provables_at old rows ++ provable_at new row ∷ []
    after_is = rw (added, map-append (provable_at new) rows (row ∷ []), provables_kept rows sound.known)

    step_of : StepOf (provables_at old rows) step (provable_at new row)
    step_of = StepOf-within (provables_at old rows) step (provable_at new row) given within (rw (length-map rows (provable_at old)) room)

    pub sound_more : IsKnownRow new row → AreSoundRows new after
    sound_more known = record {
      known = rw added (All-push (IsKnownRow new) rows row (sound_kept rows sound).known known);
      history = subst History (sym after_is) (History-more (provables_at old rows) step (provable_at new row) sound.history given);
      limited =
          subst (All IsLimited) (sym after_is)
          (All-push IsLimited (provables_at old rows) (provable_at new row) sound.limited
          (step_limited (provables_at old rows) step (provable_at new row) sound.limited step_of));
      few = rw (added, length-append rows (row ∷ [])) (omega (arith, room));
    }

    pub adds : Adds (provables_at old rows) step (provables_at new after)
    adds = record { provable = provable_at new row; is_its = step_of; after_is = after_is }

-- a step is refused where there are as many rows as there may be
pub rows_full : (old : List Tree) (rows : List Row) (step : Step) (new : List Tree) (row : Row) →
    Gives (provables_at old rows) step (provable_at new row) → IsWithin step (provable_at new row) →
    most_rows ≤ length rows → Fault (provables_at old rows) step LinesFull
rows_full old rows step new row given within full =
    rows_fault (provables_at old rows) step (provable_at new row) given within (rw (length-map rows (provable_at old)) full)

pub all_derived : (trees : List Tree) (rows : List Row) → AreSoundRows trees rows → All Derives (provables_at trees rows)
all_derived trees rows h = History-derives (provables_at trees rows) h.history

pub all_formulas : (trees : List Tree) (rows : List Row) → AreSoundRows trees rows → All HasFormulas (provables_at trees rows)
all_formulas trees rows h = All-weaker Derives HasFormulas Derives-formulas (provables_at trees rows) (all_derived trees rows h)

-- the first rows are sound too
sound_take : (trees : List Tree) (n : ℕ) (rows : List Row) → AreSoundRows trees rows → AreSoundRows trees (take n rows)
sound_take trees n rows h = record {
  known = All-take (IsKnownRow trees) n rows h.known;
  history = subst History (take-map (provable_at trees) n rows) (History-take n (provables_at trees rows) h.history);
  limited = subst (All IsLimited) (take-map (provable_at trees) n rows) (All-take IsLimited n (provables_at trees rows) h.limited);
  few = omega (arith, h.few, length-take n rows);
}

pub still_sound_take : (unique : Bool) (trees : List Tree) (n : ℕ) (rows : List Row) (named : Named) → IsSound unique trees rows named →
    IsSound unique trees (take n rows) named
still_sound_take unique trees n rows named h =
    record { is_unique = h.is_unique; are_sound = sound_take trees n rows h.are_sound; are_named = h.are_named }

-- rows that stay, over a store that has grown
pub same_rows : {S : Type 0} (trees : S → List Tree) (old new : State S) → Keeps (trees old.store) (trees new.store) →
    AreSoundRows (trees old.store) old.rows → new.rows ≡ old.rows → SameRows trees old new
same_rows trees old new keeps sound e = record {
  ids = e;
  provables = ap (provables_at (trees new.store)) e ∙ provables_kept (trees old.store) (trees new.store) keeps old.rows sound.known;
}

-- rows with more after them, over a store that has grown
pub extends_rows : {S : Type 0} (trees : S → List Tree) (old new : State S) (more : List Row) → Keeps (trees old.store) (trees new.store) →
    AreSoundRows (trees old.store) old.rows →
    new.rows ≡ old.rows ++ more → ExtendsRows trees old new
extends_rows trees old new more keeps sound e =
    let front : take (length old.rows) new.rows ≡ old.rows = ap (take (length old.rows)) e ∙ take-append_seam old.rows more in
    record {
      ids = front;
      provables = take-map (provable_at (trees new.store)) (length old.rows) new.rows ∙ ap (provables_at (trees new.store)) front
          ∙ provables_kept (trees old.store) (trees new.store) keeps old.rows sound.known;
    }
