-- Steps stand for the same in a store that has grown.
use Rattle.std.proofs.Common.{◌≡◌, List, refl, ap}
use Rattle.dlk_tree.specs.Trees.{Tree}
use Rattle.dlk_store.specs.Stores.{Keeps}
use Rattle.dlk_calculus.specs.Steps.{Start, Leaf, Apply, Substitute}
use Rattle.dlk_sequent.proofs.Kept.{IsId-kept, sequent-kept, IsKnown-kept}
use Rattle.dlk_sequent.specs.Growth.{pairs_at-kept}
use Rattle.dlk_sequent.proofs.KeptPairs.{AreKnownPairs-kept}
use Rattle.dlk_rules.specs.declared.step.Step.{Step}
use Rattle.dlk_rules.specs.declared.step.Step.TheVariants as step
use Rattle.dlk_rules.specs.Steps.{Form, OfPlace, OfTwoPlaces, OfPlaceAndFormula, OfFormula, OfPlaceAndName, form, made_at, FormIsKnown, step_at, HasKnownIds}

module _ (old new : List Tree) (keeps : Keeps old new) where
  form_known : (f : Form) → FormIsKnown old f → FormIsKnown new f
  form_known (OfPlace make i) h = tt
  form_known (OfTwoPlaces make i k) h = tt
  form_known (OfPlaceAndFormula make i id) h = IsId-kept keeps id h
  form_known (OfFormula make id) h = IsId-kept keeps id h
  form_known (OfPlaceAndName make i y) h = tt

  form_same : (f : Form) → FormIsKnown old f → made_at new f ≡ made_at old f
  form_same (OfPlace make i) h = refl
  form_same (OfTwoPlaces make i k) h = refl
  form_same (OfPlaceAndFormula make i id) h = ap (make i) (keeps.same id h)
  form_same (OfFormula make id) h = ap make (keeps.same id h)
  form_same (OfPlaceAndName make i y) h = refl

  pub step_known : (s : Step) → HasKnownIds old s → HasKnownIds new s
  step_known (step.Start s) h = IsKnown-kept keeps s h
  step_known (step.Axiom name) h = tt
  step_known (step.AxRule name) h = tt
  step_known (step.Leaf s) h = IsKnown-kept keeps s h
  step_known (step.Apply fact goal r) h = form_known (form r) h
  step_known (step.Merge fact goal by) h = tt
  step_known (step.Subst fact pairs) h = AreKnownPairs-kept keeps pairs h
  step_known (step.Rename fact x y) h = tt

  pub step_same : (s : Step) → HasKnownIds old s → step_at new s ≡ step_at old s
  step_same (step.Start s) h = ap Start (sequent-kept keeps s h)
  step_same (step.Axiom name) h = refl
  step_same (step.AxRule name) h = refl
  step_same (step.Leaf s) h = ap Leaf (sequent-kept keeps s h)
  step_same (step.Apply fact goal r) h = ap (Apply fact goal) (form_same (form r) h)
  step_same (step.Merge fact goal by) h = refl
  step_same (step.Subst fact pairs) h = ap (Substitute fact) (pairs_at-kept keeps pairs h)
  step_same (step.Rename fact x y) h = refl
