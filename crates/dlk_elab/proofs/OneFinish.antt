-- Behind an instance of an axiom there is one way to go on.
use Rattle.std.proofs.Common.{◌≡◌, ℕ, List, refl, sym, ap, ◌∙◌}
use Rattle.dlk_tree.specs.Trees.{Tree}
use Rattle.dlk_calculus.specs.Paths.{IsInnermost}
use Rattle.dlk_calculus.specs.Steps.{Step}
use Rattle.dlk_sequent.specs.declared.sequent.Place.{Place}
use Rattle.dlk_sequent.specs.declared.sequent.Place.TheVariants.{Succ}
use Rattle.dlk_uses.specs.Uses.{Use, Spot, left_of, right_of, by_equation, by_conditional_equation, by_conditional_equivalence, by_fact, Finishes}
use Rattle.dlk_uses.specs.Uses.{equivalence, equation, conditional_equivalence, conditional_equation, implication, fact}

same_right : (p : Place) (j k : ℕ) → p ≡ Succ j → p ≡ Succ k → j ≡ k
same_right p j k a b = let e = sym a ∙ b in cc

module _ (one_innermost : (e : Tree) (path a b c d : List ℕ) (f g : Tree) → IsInnermost e path a b f → IsInnermost e path c d g →
    (a ≡ c) × (b ≡ d) × (f ≡ g)) where
  pub finishes_one : (now : ℕ) (spot : Spot) (used : Use) (e f : Tree) (steps more : List Step) → Finishes now spot used e f steps →
      Finishes now spot used e f more → steps ≡ more
  finishes_one now spot used e f _ _ (equivalence is) (equivalence is_) = refl
  finishes_one now spot used e f _ _ (equivalence is) (equation a_ b_ d_ is_ round_) = let x = sym is ∙ is_ in absurd (cc x)
  finishes_one now spot used e f _ _ (equivalence is) (conditional_equivalence j_ is_ at_) = let x = sym is ∙ is_ in absurd (cc x)
  finishes_one now spot used e f _ _ (equivalence is) (conditional_equation a_ b_ d_ is_ round_) = let x = sym is ∙ is_ in absurd (cc x)
  finishes_one now spot used e f _ _ (equivalence is) (implication is_) = let x = sym is ∙ is_ in absurd (cc x)
  finishes_one now spot used e f _ _ (equivalence is) (fact j_ is_ at_) = let x = sym is ∙ is_ in absurd (cc x)
  finishes_one now spot used e f _ _ (equation a b d is round) (equivalence is_) = let x = sym is ∙ is_ in absurd (cc x)
  finishes_one now spot used e f _ _ (equation a b d is round) (equation a_ b_ d_ is_ round_) =
      let p = one_innermost e used.path a b a_ b_ d d_ round round_ in
      λ i. by_equation now spot used.place used.direction e (p.0 i) (p.1 i) (p.2 i) (left_of f) (right_of f)
  finishes_one now spot used e f _ _ (equation a b d is round) (conditional_equivalence j_ is_ at_) = let x = sym is ∙ is_ in absurd (cc x)
  finishes_one now spot used e f _ _ (equation a b d is round) (conditional_equation a_ b_ d_ is_ round_) = let x = sym is ∙ is_ in absurd (cc x)
  finishes_one now spot used e f _ _ (equation a b d is round) (implication is_) = let x = sym is ∙ is_ in absurd (cc x)
  finishes_one now spot used e f _ _ (equation a b d is round) (fact j_ is_ at_) = let x = sym is ∙ is_ in absurd (cc x)
  finishes_one now spot used e f _ _ (conditional_equivalence j is at) (equivalence is_) = let x = sym is ∙ is_ in absurd (cc x)
  finishes_one now spot used e f _ _ (conditional_equivalence j is at) (equation a_ b_ d_ is_ round_) = let x = sym is ∙ is_ in absurd (cc x)
  finishes_one now spot used e f _ _ (conditional_equivalence j is at) (conditional_equivalence j_ is_ at_) =
      ap (λ j. by_conditional_equivalence now spot j (left_of f) (left_of (right_of f)) (right_of (right_of f))) (same_right used.place j j_ at at_)
  finishes_one now spot used e f _ _ (conditional_equivalence j is at) (conditional_equation a_ b_ d_ is_ round_) = let x = sym is ∙ is_ in absurd (cc x)
  finishes_one now spot used e f _ _ (conditional_equivalence j is at) (implication is_) = let x = sym is ∙ is_ in absurd (cc x)
  finishes_one now spot used e f _ _ (conditional_equivalence j is at) (fact j_ is_ at_) = let x = sym is ∙ is_ in absurd (cc x)
  finishes_one now spot used e f _ _ (conditional_equation a b d is round) (equivalence is_) = let x = sym is ∙ is_ in absurd (cc x)
  finishes_one now spot used e f _ _ (conditional_equation a b d is round) (equation a_ b_ d_ is_ round_) = let x = sym is ∙ is_ in absurd (cc x)
  finishes_one now spot used e f _ _ (conditional_equation a b d is round) (conditional_equivalence j_ is_ at_) = let x = sym is ∙ is_ in absurd (cc x)
  finishes_one now spot used e f _ _ (conditional_equation a b d is round) (conditional_equation a_ b_ d_ is_ round_) =
      let p = one_innermost e used.path a b a_ b_ d d_ round round_ in
      λ i. by_conditional_equation now spot used.place used.direction e (p.0 i) (p.1 i) (p.2 i) (left_of f) (left_of (right_of f)) (right_of (right_of f))
  finishes_one now spot used e f _ _ (conditional_equation a b d is round) (implication is_) = let x = sym is ∙ is_ in absurd (cc x)
  finishes_one now spot used e f _ _ (conditional_equation a b d is round) (fact j_ is_ at_) = let x = sym is ∙ is_ in absurd (cc x)
  finishes_one now spot used e f _ _ (implication is) (equivalence is_) = let x = sym is ∙ is_ in absurd (cc x)
  finishes_one now spot used e f _ _ (implication is) (equation a_ b_ d_ is_ round_) = let x = sym is ∙ is_ in absurd (cc x)
  finishes_one now spot used e f _ _ (implication is) (conditional_equivalence j_ is_ at_) = let x = sym is ∙ is_ in absurd (cc x)
  finishes_one now spot used e f _ _ (implication is) (conditional_equation a_ b_ d_ is_ round_) = let x = sym is ∙ is_ in absurd (cc x)
  finishes_one now spot used e f _ _ (implication is) (implication is_) = refl
  finishes_one now spot used e f _ _ (implication is) (fact j_ is_ at_) = let x = sym is ∙ is_ in absurd (cc x)
  finishes_one now spot used e f _ _ (fact j is at) (equivalence is_) = let x = sym is ∙ is_ in absurd (cc x)
  finishes_one now spot used e f _ _ (fact j is at) (equation a_ b_ d_ is_ round_) = let x = sym is ∙ is_ in absurd (cc x)
  finishes_one now spot used e f _ _ (fact j is at) (conditional_equivalence j_ is_ at_) = let x = sym is ∙ is_ in absurd (cc x)
  finishes_one now spot used e f _ _ (fact j is at) (conditional_equation a_ b_ d_ is_ round_) = let x = sym is ∙ is_ in absurd (cc x)
  finishes_one now spot used e f _ _ (fact j is at) (implication is_) = let x = sym is ∙ is_ in absurd (cc x)
  finishes_one now spot used e f _ _ (fact j is at) (fact j_ is_ at_) =
      ap (λ j. by_fact now spot j) (same_right used.place j j_ at at_)
