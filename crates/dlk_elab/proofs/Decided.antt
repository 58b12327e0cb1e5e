-- Which formulas are the same first is decided.
use Rattle.std.proofs.Common.{◌≡◌, ℕ, zero, suc, ◌+◌, ◌<◌, ◌≤◌, List, length, Some, sym, ap, subst, ◌∙◌, ◌⊎◌, inl, inr, arith}
use Rattle.std.specs.List.{slice_get}
use Rattle.std.proofs.lemmas.Option.{slice_get_cases, same_Some}
use Rattle.dlk_tree.specs.Trees.{Tree}
use Rattle.dlk_calculus.specs.Places.{At}
use Rattle.dlk_calculus.specs.Sequents.{Sequent}
use Rattle.dlk_calculus.proofs.Decide.{same_tree}
use Rattle.dlk_elab.specs.Atoms.{AreSame, AreFirstSame}
use Rattle.dlk_elab.specs.Ties.{IsFirstPlace}
use Rattle.dlk_elab.proofs.Sames.{Clear, clear_none, clear_more, clear_end, first_found, ClearLeft, left_none, left_more, none_same, first_same_found}

-- an item of a list
pub item : {A : Type 0} (items : List A) (n : ℕ) → n < length items → (x : A) × (slice_get items n ≡ Some x)
item items n less = elim (slice_get_cases items n).1 [ inl h ↦ (h.0, h.2) | inr h ↦ absurd (omega (arith, h.0)) ]

place_among : (items : List Tree) (x : Tree) (n : ℕ) → n ≤ length items → ((j : ℕ) × IsFirstPlace items j x) ⊎ Clear items n x
place_among items x zero few = inr (clear_none items x)
place_among items x (suc n) few =
    elim (place_among items x n (omega arith)) [
      | inl found ↦ inl found
      | inr clear ↦
          let here = item items n (omega arith) in
          elim (same_tree here.0 x) [
            | yes same ↦ inl (n + 1, first_found items n x clear (here.1 ∙ ap Some same))
            | no other ↦
                let one : n + 1 ≡ suc n = omega arith in
                inr (subst (λ k. Clear items k x) one (clear_more items n x clear (λ found. other (same_Some here.0 x (sym here.1 ∙ found)))))
          ]
    ]

first_place : (items : List Tree) (x : Tree) → ((j : ℕ) × IsFirstPlace items j x) ⊎ ((j : ℕ) → ¬ At items j x)
first_place items x =
    elim (place_among items x (length items) (omega arith)) [ inl found ↦ inl found | inr clear ↦ inr (clear_end items (length items) x (omega arith) clear) ]

same_among : (s : Sequent) (n : ℕ) → n ≤ length s.ante → ((i : ℕ) × (j : ℕ) × AreFirstSame s i j) ⊎ ClearLeft s n
same_among s zero few = inr (left_none s)
same_among s (suc n) few =
    elim (same_among s n (omega arith)) [
      | inl found ↦ inl found
      | inr clear ↦
          let here = item s.ante n (omega arith) in
          elim (first_place s.succ here.0) [
            | inl place ↦ inl (n + 1, place.0, first_same_found s n place.0 here.0 clear here.1 place.1)
            | inr none ↦ let one : n + 1 ≡ suc n = omega arith in inr (subst (ClearLeft s) one (left_more s n here.0 clear here.1 none))
          ]
    ]

pub same_decided : (s : Sequent) → ((i : ℕ) × (j : ℕ) × AreFirstSame s i j) ⊎ ((i j : ℕ) → ¬ AreSame s i j)
same_decided s =
    elim (same_among s (length s.ante) (omega arith)) [ inl found ↦ inl found | inr clear ↦ inr (none_same s (length s.ante) (omega arith) clear) ]
