-- What stands on the right at a place, and whether it is a box, is decided.
use Rattle.std.proofs.Common.{◌≡◌, ◌≢◌, ℕ, Bool, true, false, List, [], ◌∷◌, Option, Some, None, refl, sym, ap, subst, ◌∙◌, ◌⊎◌, inl, inr}
use Rattle.std.proofs.lemmas.Bool.{cases_Bool}
use Rattle.std.proofs.lemmas.Option.{none-some}
use Rattle.dlk_tree.specs.declared.op.Op.TheVariants as Op'
use Rattle.dlk_tree.specs.Trees.{Tree, node, no_kids, kid}
use Rattle.dlk_calculus.specs.Notation.{box}
use Rattle.dlk_calculus.specs.Places.{at}
use Rattle.dlk_calculus.specs.Sequents.{Sequent}
use Rattle.dlk_sequent.specs.declared.sequent.Place.{Place}
use Rattle.dlk_sequent.specs.declared.sequent.Place.TheVariants.{Ante, Succ}
use Rattle.dlk_tacsyn.specs.Tactics.{AtPlace}
use Rattle.dlk_uses.specs.Uses.{left_of, right_of}
use Rattle.dlk_elab.specs.Atoms.{IsOnTheRight}

abbrev is_box : Tree → Bool
is_box (node Op'.Box (kid b (kid f no_kids))) = true
is_box _ = false

box_is : (e : Tree) → is_box e ≡ true → e ≡ box (left_of e) (right_of e)
box_is (node Op'.Box (kid b (kid f no_kids))) h = refl
box_is _ h = absurd (cc h)

no_box_is : (e b f : Tree) → is_box e ≡ false → e ≢ box b f
no_box_is e b f other same = let h : is_box (box b f) ≡ false = subst (λ x. is_box x ≡ false) same other in cc

pub box_or_not : (e : Tree) → ((b : Tree) × (f : Tree) × (e ≡ box b f)) ⊎ ((b f : Tree) → e ≢ box b f)
box_or_not e =
    elim (cases_Bool (is_box e)) [
      | inl h ↦ inl (left_of e, right_of e, box_is e h)
      | inr other ↦ inr (λ b f. no_box_is e b f other)
    ]

module _ (s : Sequent) where
  abbrev Decided : Place → List ℕ → Type 0
  Decided place path =
      ((j : ℕ) × (e : Tree) × IsOnTheRight s (AtPlace place path) j e) ⊎ ((j : ℕ) (e : Tree) → ¬ IsOnTheRight s (AtPlace place path) j e)

  at_right : (j : ℕ) (o : Option Tree) → at s.succ j ≡ o → Decided (Succ j) []
  at_right j None q =
      inr (λ k e h.
      let place = h.place in
      let same : j ≡ k = cc in
      none-some e (sym q ∙ ap (at s.succ) same ∙ h.stands))
  at_right j (Some e) q = inl (j, e, record { place = refl; stands = q })

  pub right_or_not : (place : Place) (path : List ℕ) → Decided place path
  right_or_not (Succ j) [] = at_right j (at s.succ j) refl
  right_or_not (Succ j) (n ∷ path) = inr (λ k e h. let place = h.place in cc)
  right_or_not (Ante i) path = inr (λ k e h. let place = h.place in cc)
