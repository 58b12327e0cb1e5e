-- What an atom for a box asks for is decided.
use Rattle.std.proofs.Common.{◌≡◌, ℕ, List, [], ◌∷◌, length, None, refl, sym, ap, subst, ◌∙◌, inl, inr}
use Rattle.std.specs.Prelude.{codes}
use Rattle.dlk_tree.specs.declared.op.Sort.TheVariants.{Program, Formula}
use Rattle.dlk_tree.specs.Trees.{Tree, sort, WellMade}
use Rattle.dlk_calculus.specs.declared.reason.Reason.TheVariants.{WrongShape}
use Rattle.dlk_calculus.specs.Notation.{box}
use Rattle.dlk_calculus.specs.Places.{At}
use Rattle.dlk_calculus.specs.Provables.{Provable}
use Rattle.dlk_calculus.specs.Rules.{imply}
use Rattle.dlk_calculus.specs.Sequents.{Sequent, IsFormula, IsSequent}
use Rattle.dlk_calculus.proofs.PlaceLaws.{At_All}
use Rattle.dlk_sequent.specs.declared.sequent.Place.{Place}
use Rattle.dlk_sequent.specs.declared.sequent.Place.TheVariants.{Succ}
use Rattle.dlk_tacsyn.specs.declared.kind.Kind.TheVariants.{AnyPlace, QuotedFormula}
use Rattle.dlk_tacsyn.specs.Rows.{AreOfKinds}
use Rattle.dlk_tacsyn.specs.Tactics.{Argument, AtPlace, GivenFormula, Atom}
use Rattle.dlk_uses.specs.Uses.{Spot, generalizing, cutting_box}
use Rattle.dlk_elab.specs.Atoms.{NoPlace, AtStep, HasNoLocator, Steps, Refused, generalize, cut_box, no_box, not_on_the_right, IsForBox, generalizes}
use Rattle.dlk_elab.specs.Atoms.{cuts, IsOnTheRight}
use Rattle.dlk_elab.proofs.BoxOrNot.{box_or_not, right_or_not}
use Rattle.dlk_elab.proofs.Given.{one_given, cut_given}
use Rattle.dlk_elab.proofs.ProperSteps.{all_proper, generalizing_proper, cutting_proper}
use Rattle.dlk_elab.proofs.Wants.{Wants}

-- the program and the formula of a box
record BoxParts (b f : Tree) : Type 0 where
  program : WellMade b
  formula : WellMade f
  formula_sort : sort f ≡ Formula

box_parts : (b f : Tree) → IsFormula (box b f) → BoxParts b f
box_parts b f h =
    let e : sort b ∷ sort f ∷ [] ≡ Program ∷ Formula ∷ [] = h.well_made.0.kids_fit in
    record { program = h.well_made.1.0; formula = h.well_made.1.1.0; formula_sort = cc }

imply_made : (h f : Tree) → IsFormula h → WellMade f → sort f ≡ Formula → WellMade (imply h f)
imply_made h f cut made is = (record { kids_fit = λ i. cut.sort_is i ∷ is i ∷ []; parts_fit = refl }, (cut.well_made, (made, tt)))

module _ (rows : List Provable) (fact goal : ℕ) (s : Sequent) (atom : Atom) (formulas : IsSequent s) (fixed : HasNoLocator atom) where
  abbrev spot : Spot
  spot = record { fact = fact; goal = goal; s = s }

  parts_at : (j : ℕ) (b f : Tree) → At s.succ j (box b f) → BoxParts b f
  parts_at j b f here = box_parts b f (At_All IsFormula s.succ j (box b f) formulas.succ here)

  wants_box : (p : Argument) (place : Place) (path : List ℕ) → p ≡ AtPlace place path → IsForBox atom p →
      ((j : ℕ) (b f : Tree) → p ≡ AtPlace (Succ j) [] → At s.succ j (box b f) → Wants rows fact goal s atom) → Wants rows fact goal s atom
  wants_box p place path same is make =
      elim (right_or_not s place path) [
        | inl h ↦
            let here : IsOnTheRight s p h.0 h.1 = subst (λ (a : Argument). IsOnTheRight s a h.0 h.1) (sym same) h.2 in
            elim (box_or_not h.1) [
              | inl b ↦ make h.0 b.0 b.1 here.place (subst (At s.succ h.0) b.2 here.stands)
              | inr other ↦ record { asked = Refused (AtStep WrongShape); asks = no_box p h.0 h.1 is here other; proper = tt }
            ]
        | inr none ↦ record {
          asked = Refused NoPlace;
          asks = not_on_the_right p is (λ j e h. none j e (subst (λ (a : Argument). IsOnTheRight s a j e) same h));
          proper = tt;
        }
      ]

  pub wants_generalize : atom.name ≡ codes "G" → AreOfKinds (AnyPlace ∷ []) None atom.arguments → Wants rows fact goal s atom
  wants_generalize name kinds =
      let g = one_given atom.arguments kinds fixed in
      wants_box g.argument g.place g.path g.is (generalizes name g.are)
      (λ j b f place here.
      let parts = parts_at j b f here in
      let steps = generalizing (length rows) spot j b f in
      record {
        asked = Steps steps;
        asks = generalize j b f name (g.are ∙ ap (λ a. a ∷ []) place) here;
        proper = all_proper steps (generalizing_proper (length rows) spot j b f parts.program parts.formula);
      })

  pub wants_cut : atom.name ≡ codes "boxCut" → AreOfKinds (QuotedFormula ∷ AnyPlace ∷ []) None atom.arguments → Wants rows fact goal s atom
  wants_cut name kinds =
      let g = cut_given atom.arguments kinds fixed in
      let h = g.formula in
      wants_box g.argument g.place g.path g.is (cuts h name g.are)
      (λ j b f place here.
      let parts = parts_at j b f here in
      let steps = cutting_box (length rows) spot j b f h in
      record {
        asked = Steps steps;
        asks = cut_box j b f h name (g.are ∙ ap (λ a. GivenFormula h ∷ a ∷ []) place) here;
        proper = all_proper steps
            (cutting_proper (length rows) spot j b f h parts.program parts.formula g.is_formula.well_made
            (imply_made h f g.is_formula parts.formula parts.formula_sort));
      })
