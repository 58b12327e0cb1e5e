-- Items by their places, where others stand in the place of one.
use Rattle.std.proofs.Common.{◌≡◌, ℕ, suc, zero, ◌+◌, ◌-◌, ◌<◌, List, [], ◌∷◌, ◌++◌, length, take, drop, get_or, refl, sym, subst, ap, ◌∙◌, Some}
use Rattle.std.proofs.Common.{arith, length-append, append_assoc}
use Rattle.std.specs.List.{slice_get, slice_set}
use Rattle.std.proofs.lemmas.Option.{get_or_from_slice_get, slice_get_within, slice_get-get_or}
use Rattle.std.proofs.lemmas.List.{get_or-append-add, get_or-take, length-take, length-take-le, length-set}
use Rattle.std.proofs.lemmas.Grind.{get_or-set_at}
use Rattle.dlk_calculus.specs.Places.{At, put, put_all}
use Rattle.dlk_calculus.proofs.PlaceLaws.{at_suc, At_place, split_at, At-more, At-behind}

-- the first and the second of them, what stands before them, and another item in its place

pub put_first : {A : Type 0} (items : List A) (place : ℕ) (x y : A) (new : List A) → At items place x → At (put_all items place (y ∷ new)) place y
put_first items place x y new h =
    let front = take (place - 1) items in
    let there = At_place items place x h in
    let n : length front + 1 ≡ place = omega (arith, there.0, there.1, length-take-le (place - 1) items (omega (arith, there.0, there.1))) in
    subst (λ l. At l place y) (sym (append_assoc front (y ∷ new) (drop place items)))
    (subst (λ k. At (front ++ y ∷ (new ++ drop place items)) k y) n (At-behind front (y ∷ (new ++ drop place items)) 1 y refl))

pub put_second : {A : Type 0} (items : List A) (place : ℕ) (x y z : A) (new : List A) → At items place x → At (put_all items place (y ∷ z ∷ new)) (place + 1) z
put_second items place x y z new h =
    let front = take (place - 1) items in
    let there = At_place items place x h in
    let n : length front + 2 ≡ place + 1 = omega (arith, there.0, there.1, length-take-le (place - 1) items (omega (arith, there.0, there.1))) in
    subst (λ l. At l (place + 1) z) (sym (append_assoc front (y ∷ z ∷ new) (drop place items)))
    (subst (λ k. At (front ++ y ∷ z ∷ (new ++ drop place items)) k z) n (At-behind front (y ∷ z ∷ (new ++ drop place items)) 2 z refl))

pub put_before : {A : Type 0} (items : List A) (place : ℕ) (new : List A) (k : ℕ) (z : A) → At items k z → k < place → At (put_all items place new) k z
put_before items place new zero z h lt = absurd (cc h)
put_before items place new (suc n) z h lt =
    let front = take (place - 1) items in
    let here : slice_get items n ≡ Some z = sym (at_suc items n) ∙ h in
    let within = slice_get_within items n z here in
    let in_front : n < length front = omega (arith, lt, within, length-take (place - 1) items) in
    let is : get_or front n z ≡ z = get_or-take (place - 1) items n z (omega (arith, lt)) ∙ get_or_from_slice_get items n z z here in
    let at : At front (suc n) z = at_suc front n ∙ slice_get-get_or front n z in_front ∙ ap Some is in
    subst (λ l. At l (suc n) z) (sym (append_assoc front new (drop place items))) (At-more front (new ++ drop place items) (suc n) z at)

pub put_there : {A : Type 0} (items : List A) (place : ℕ) (x y : A) → At items place x → At (put items place y) place y
put_there items zero x y h = absurd (cc h)
put_there items (suc n) x y h =
    let here : slice_get items n ≡ Some x = sym (at_suc items n) ∙ h in
    let one : suc n - 1 ≡ n = omega arith in
    at_suc (put items (suc n) y) n ∙ ap (λ k. slice_get (slice_set items k y) n) one
    ∙ slice_get-get_or (slice_set items n y) n x (omega (arith, slice_get_within items n x here, length-set items n y))
    ∙ ap Some (get_or-set_at items n n y x refl (slice_get_within items n x here))

-- an item behind others, and one behind the item that gives way
At-back : {A : Type 0} (front items : List A) (n : ℕ) (x : A) → At (front ++ items) (length front + suc n) x → At items (suc n) x
At-back front items n x h =
    let same : length front + suc n ≡ suc (length front + n) = omega arith in
    let here : slice_get (front ++ items) (length front + n) ≡ Some x =
    sym (at_suc (front ++ items) (length front + n)) ∙ subst (λ k. At (front ++ items) k x) same h in
    let lt = slice_get_within (front ++ items) (length front + n) x here in
    let is : get_or items n x ≡ x = sym (get_or-append-add front items n x) ∙ get_or_from_slice_get (front ++ items) (length front + n) x x here in
    at_suc items n ∙ slice_get-get_or items n x (omega (arith, lt, length-append front items)) ∙ ap Some is

pub put_later : {A : Type 0} (items : List A) (place : ℕ) (x : A) (new : List A) (k m : ℕ) (z : A) → At items place x → At items (place + suc k) z →
    m + 1 ≡ place + length new + suc k → At (put_all items place new) m z
put_later items place x new k m z h later e =
    let front = take (place - 1) items in
    let back = drop place items in
    let there = At_place items place x h in
    let n : length front + 1 ≡ place = omega (arith, there.0, there.1, length-take-le (place - 1) items (omega (arith, there.0, there.1))) in
    let split : items ≡ (front ++ x ∷ []) ++ back = split_at items place x h ∙ sym (append_assoc front (x ∷ []) back) in
    let long : place + suc k ≡ length (front ++ x ∷ []) + suc k = omega (arith, n, length-append front (x ∷ [])) in
    let its : At back (suc k) z = At-back (front ++ x ∷ []) back k z (subst (λ l. At l (length (front ++ x ∷ []) + suc k) z) split
    (subst (λ i. At items i z) long later)) in
    let at : length (front ++ new) + suc k ≡ m = omega (arith, n, e, length-append front new) in
    subst (λ i. At ((front ++ new) ++ back) i z) at (At-behind (front ++ new) back (suc k) z its)
