-- The first formulas that are the same.
use Rattle.std.proofs.Common.{◌≡◌, ◌≢◌, ℕ, zero, suc, ◌+◌, ◌-◌, ◌<◌, ◌≤◌, List, map, length, get_or, Some, sym, ap, subst, ◌∙◌, ◌⊎◌, inl, inr, arith}
use Rattle.std.specs.List.{slice_get}
use Rattle.std.specs.Option.{option_map}
use Rattle.std.proofs.lemmas.Option.{slice_get-map, slice_get-get_or, slice_get_within, same_Some}
use Rattle.std.proofs.lemmas.Bool.{cases_order, cases_lt}
use Rattle.dlk_tree.specs.Trees.{Tree}
use Rattle.dlk_store.specs.declared.Id.{Id}
use Rattle.dlk_store.specs.Stores.{tree}
use Rattle.dlk_calculus.specs.Places.{At}
use Rattle.dlk_calculus.specs.Sequents.{Sequent}
use Rattle.dlk_calculus.proofs.PlaceLaws.{at_suc}
use Rattle.dlk_sequent.specs.declared.sequent.Sequent.{Sequent as IdSequent}
use Rattle.dlk_sequent.specs.Sequents.{sequent_at}
use Rattle.dlk_elab.specs.Atoms.{AreSame, AreFirstSame}
use Rattle.dlk_elab.specs.Ties.{IsFirstPlace}

pub at_next : {A : Type 0} (items : List A) (n : ℕ) (x : A) → slice_get items n ≡ Some x → At items (n + 1) x
at_next items n x h = let e : n + 1 ≡ suc n = omega arith in rw e (at_suc items n ∙ h)

pub item_at_place : {A : Type 0} (items : List A) (place : ℕ) (x : A) → At items place x → (1 ≤ place) × (slice_get items (place - 1) ≡ Some x)
item_at_place items zero x h = absurd (cc h)
item_at_place items (suc n) x h = let e : suc n - 1 ≡ n = omega arith in (omega arith, rw e (sym (at_suc items n) ∙ h))

-- x isn't among the first items
abbrev pub Clear : {A : Type 0} → List A → ℕ → A → Type 0
Clear items i x = (k : ℕ) → k < i → slice_get items k ≢ Some x

pub clear_none : {A : Type 0} (items : List A) (x : A) → Clear items 0 x
clear_none items x k less = absurd (omega arith)

pub clear_more : {A : Type 0} (items : List A) (i : ℕ) (x : A) → Clear items i x → slice_get items i ≢ Some x → Clear items (i + 1) x
clear_more items i x before other k less found =
    elim (cases_order k i) [
      | inl same ↦ other (subst (λ n. slice_get items n ≡ Some x) same found)
      | inr apart ↦ elim apart [
        | inl under ↦ before k under found
        | inr over ↦ absurd (omega arith)
      ]
    ]

pub clear_end : {A : Type 0} (items : List A) (i : ℕ) (x : A) → length items ≤ i → Clear items i x → (j : ℕ) → ¬ At items j x
clear_end items i x all clear j stands =
    let h = item_at_place items j x stands in
    clear (j - 1) (omega (arith, slice_get_within items (j - 1) x h.1)) h.1

pub first_found : {A : Type 0} (items : List A) (i : ℕ) (x : A) → Clear items i x → slice_get items i ≡ Some x → IsFirstPlace items (i + 1) x
first_found items i x clear found = record {
  stands = at_next items i x found;
  least = λ k stands.
      let h = item_at_place items k x stands in
      let low : 1 ≤ k = h.0 in
      elim (cases_lt (k - 1) i) [
        | inl under ↦ absurd (clear (k - 1) under h.1)
        | inr over ↦ omega arith
      ];
}

-- no formula of the first ones on the left stands on the right
abbrev pub ClearLeft : Sequent → ℕ → Type 0
ClearLeft s i = (k : ℕ) (f : Tree) → k < i → slice_get s.ante k ≡ Some f → (j : ℕ) → ¬ At s.succ j f

pub left_none : (s : Sequent) → ClearLeft s 0
left_none s k f less = absurd (omega arith)

pub left_more : (s : Sequent) (i : ℕ) (f : Tree) → ClearLeft s i → slice_get s.ante i ≡ Some f → ((j : ℕ) → ¬ At s.succ j f) → ClearLeft s (i + 1)
left_more s i f before here none k g less found =
    elim (cases_order k i) [
      | inl same ↦
          let g_is : f ≡ g = same_Some f g (sym here ∙ subst (λ n. slice_get s.ante n ≡ Some g) same found) in
          λ j stands. none j (subst (λ x. At s.succ j x) (sym g_is) stands)
      | inr apart ↦ elim apart [
        | inl under ↦ before k g under found
        | inr over ↦ absurd (omega arith)
      ]
    ]

pub none_same : (s : Sequent) (i : ℕ) → length s.ante ≤ i → ClearLeft s i → (k l : ℕ) → ¬ AreSame s k l
none_same s i all clear k l same =
    let h = item_at_place s.ante k same.0 same.1 in
    clear (k - 1) same.0 (omega (arith, slice_get_within s.ante (k - 1) same.0 h.1)) h.1 l same.2

pub first_same_found : (s : Sequent) (i j : ℕ) (f : Tree) → ClearLeft s i → slice_get s.ante i ≡ Some f → IsFirstPlace s.succ j f → AreFirstSame s (i + 1) j
first_same_found s i j f clear here first = record {
  same = (f, at_next s.ante i f here, first.stands);
  least = λ k l same. after k l same;
}
  where
    after : (k l : ℕ) → AreSame s k l → (i + 1 < k) ⊎ ((i + 1 ≡ k) × (j ≤ l))
    after k l same =
        let h = item_at_place s.ante k same.0 same.1 in
        let low : 1 ≤ k = h.0 in
        elim (cases_order (i + 1) k) [
          | inl e ↦
              let place : k - 1 ≡ i = omega arith in
              let f_is : same.0 ≡ f = same_Some same.0 f (sym h.1 ∙ ap (slice_get s.ante) place ∙ here) in
              inr (e, first.least l (subst (λ x. At s.succ l x) f_is same.2))
          | inr apart ↦ elim apart [
            | inl over ↦ inl over
            | inr under ↦ absurd (clear (k - 1) same.0 (omega arith) h.1 l same.2)
          ]
        ]

-- the same over the ids of a store, where one was read
module _ (trees : List Tree) (ids : List Id) (i : ℕ) (id : Id) (within : i < length ids) where
  pub ids_found : (x : Tree) → Clear (map (tree trees) ids) i x → tree trees (get_or ids i id) ≡ x → IsFirstPlace (map (tree trees) ids) (i + 1) x
  ids_found x clear same = first_found (map (tree trees) ids) i x clear (slice_get-map (tree trees) ids i ∙ ap (option_map (tree trees)) (slice_get-get_or
      ids i id within) ∙ ap Some same)

  pub ids_more : (x : Tree) → Clear (map (tree trees) ids) i x → tree trees (get_or ids i id) ≢ x → Clear (map (tree trees) ids) (i + 1) x
  ids_more x clear other =
      clear_more (map (tree trees) ids) i x clear
      (λ found. other (same_Some _ _ (sym (slice_get-map (tree trees) ids i ∙ ap (option_map (tree trees)) (slice_get-get_or ids i id within)) ∙ found)))

module _ (trees : List Tree) (s : IdSequent) (left right : List Id) (i : ℕ) (id : Id) (left_is : left ≡ s.ante) (right_is : right ≡ s.succ) (within : i <
    length left) where
  read : slice_get (map (tree trees) s.ante) i ≡ Some (tree trees (get_or left i id))
  read =
      ap (λ ids. slice_get (map (tree trees) ids) i) (sym left_is) ∙ slice_get-map (tree trees) left i
      ∙ ap (option_map (tree trees)) (slice_get-get_or left i id within)

  pub sides_found : (j : ℕ) → ClearLeft (sequent_at trees s) i → IsFirstPlace (map (tree trees) right) j (tree trees (get_or left i id)) →
      AreFirstSame (sequent_at trees s) (i + 1) j
  sides_found j clear first =
      first_same_found (sequent_at trees s) i j (tree trees (get_or left i id)) clear read
      (subst (λ ids. IsFirstPlace (map (tree trees) ids) j (tree trees (get_or left i id))) right_is first)

  pub sides_more : ClearLeft (sequent_at trees s) i → ((j : ℕ) → ¬ At (map (tree trees) right) j (tree trees (get_or left i id))) →
      ClearLeft (sequent_at trees s) (i + 1)
  sides_more clear none =
      left_more (sequent_at trees s) i (tree trees (get_or left i id)) clear read
      (λ j. subst (λ ids. ¬ At (map (tree trees) ids) j (tree trees (get_or left i id))) right_is (none j))
