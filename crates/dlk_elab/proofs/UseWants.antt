-- What an atom that uses an axiom asks for is decided.
use Rattle.std.proofs.Common.{◌≡◌, ℕ, Bool, true, false, List, [], ◌∷◌, length, Option, Some, None, refl, sym, ap, ◌∙◌, ◌⊎◌, inl, inr}
use Rattle.std.proofs.lemmas.Option.{none-some, same_Some}
use Rattle.dlk_tree.specs.Trees.{Tree}
use Rattle.dlk_calculus.specs.Axioms.{Axiom, axiom_named}
use Rattle.dlk_calculus.specs.Pairs.{Extra}
use Rattle.dlk_calculus.specs.Paths.{subtree}
use Rattle.dlk_calculus.specs.Provables.{Provable}
use Rattle.dlk_calculus.specs.Sequents.{Sequent, IsFormula, IsSequent}
use Rattle.dlk_calculus.proofs.PlaceLaws.{At_All}
use Rattle.dlk_sequent.specs.declared.sequent.Place.{Place}
use Rattle.dlk_sequent.specs.declared.sequent.Place.TheVariants.{Ante, Succ}
use Rattle.dlk_match.specs.Matching.{Match}
use Rattle.dlk_tacsyn.specs.declared.kind.Kind.TheVariants.{AnyPlace, AName, QuotedExtra}
use Rattle.dlk_tacsyn.specs.Rows.{AreOfKinds, HasNames}
use Rattle.dlk_tacsyn.specs.Tactics.{Atom}
use Rattle.dlk_uses.specs.Uses.{Direction, Use, Spot, key, may_stand, formula_at}
use Rattle.dlk_elab.specs.Atoms.{UnknownName, NoPlace, NoMatch, HasNoLocator, Instance, Refused, use_axiom, no_axiom, not_there, no_match}
use Rattle.dlk_elab.specs.Atoms.{word_of_direction, IsUse, StandsThere}
use Rattle.dlk_elab.proofs.Given.{UseGiven, use_given}
use Rattle.dlk_elab.proofs.MergesFit.{named_itself}
use Rattle.dlk_elab.proofs.ProperUses.{Laws, made_proper, goes_on}
use Rattle.dlk_elab.proofs.Wants.{Wants}

module _ (laws : Laws)
    (decide : (own : List (List ℕ)) (key e : Tree) (given : Extra) →
    ((extra : Extra) × Match key own e given extra) ⊎ ((extra : Extra) → ¬ Match key own e given extra))
    (rows : List Provable) (fact goal : ℕ) (s : Sequent) (atom : Atom) (formulas : IsSequent s) where
  abbrev spot : Spot
  spot = record { fact = fact; goal = goal; s = s }

  formula_there : (place : Place) (e : Tree) → formula_at s place ≡ Some e → IsFormula e
  formula_there (Ante i) e here = At_All IsFormula s.ante i e formulas.ante here
  formula_there (Succ j) e here = At_All IsFormula s.succ j e formulas.succ here

  module _ (direction : Direction) (name_is : atom.name ≡ word_of_direction direction) (g : UseGiven atom.arguments) where
    module _ (a : Axiom) (found : axiom_named g.name ≡ Some a) where
      abbrev used : Use
      used = record { its_axiom = a; direction = direction; place = g.place; path = g.path; given = g.extra }

      is_use : IsUse atom used
      is_use = record { name = g.name; names = (name_is, g.are); is_axiom = found }

      module _ (e : Tree) (stands : formula_at s g.place ≡ Some e) where
        module _ (t : Tree) (inside : subtree e g.path ≡ Some t) where
          there : StandsThere s used e t
          there = record { formula = stands; inside = inside }

          by_may : (b : Bool) → may_stand a.form direction g.place g.path ≡ b → Wants rows fact goal s atom
          by_may false never = record { asked = Refused NoMatch; asks = no_match used e t is_use there (λ may extra m. absurd (cc may)); proper = tt }
          by_may true may =
              elim (decide a.own_names (key a.form direction g.place a.formula) t g.extra) [
                | inl m ↦
                    let formula = formula_there g.place e stands in
                    let named = named_itself g.name a found in
                    record {
                      asked = Instance used m.0 e;
                      asks = use_axiom used e t m.0 is_use there may m.1;
                      proper = (
                        made_proper laws spot used e t m.0 formula inside may m.1 named (length rows) g.names g.pairs,
                        λ between takes. goes_on laws spot used e t m.0 formula inside may m.1 named rows between takes,
                      );
                    }
                | inr none ↦ record { asked = Refused NoMatch; asks = no_match used e t is_use there (λ may extra m. none extra m); proper = tt }
              ]

        by_inside : (o : Option Tree) → subtree e g.path ≡ o → Wants rows fact goal s atom
        by_inside None none = record {
          asked = Refused NoPlace;
          asks = not_there used is_use
              (λ f t h.
              let same : e ≡ f = same_Some e f (sym stands ∙ h.formula) in
              none-some t (sym none ∙ ap (λ x. subtree x g.path) same ∙ h.inside));
          proper = tt;
        }
        by_inside (Some t) inside = by_may t inside (may_stand a.form direction g.place g.path) refl

      by_formula : (o : Option Tree) → formula_at s g.place ≡ o → Wants rows fact goal s atom
      by_formula None none = record { asked = Refused NoPlace; asks = not_there used is_use (λ f t h. none-some f (sym none ∙ h.formula)); proper = tt }
      by_formula (Some e) stands = by_inside e stands (subtree e g.path) refl

    by_axiom : (o : Option Axiom) → axiom_named g.name ≡ o → Wants rows fact goal s atom
    by_axiom None none = record {
      asked = Refused UnknownName;
      asks = no_axiom direction g.name g.place g.path g.extra (name_is, g.are) none;
      proper = tt;
    }
    by_axiom (Some a) found = by_formula a found (formula_at s g.place) refl

  pub wants_use : (direction : Direction) → atom.name ≡ word_of_direction direction → HasNoLocator atom → HasNames atom →
      AreOfKinds (AName ∷ AnyPlace ∷ []) (Some QuotedExtra) atom.arguments → Wants rows fact goal s atom
  wants_use direction name_is fixed names kinds =
      let g = use_given atom.arguments kinds fixed names in by_axiom direction name_is g (axiom_named g.name) refl
