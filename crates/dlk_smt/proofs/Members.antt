-- What stands in a list, and in one that is in order.
use Rattle.std.proofs.Common.{◌≡◌, ◌⊎◌, inl, inr, ℕ, zero, suc, ◌<◌, Bool, true, false, ◌||◌, ◌&&◌, not, List, [], ◌∷◌, ◌++◌, length, get_or, map}
use Rattle.std.proofs.Common.{filter, cond, refl, sym, ap, subst, ◌∙◌, arith}
use Rattle.std.specs.Bool.{Decides}
use Rattle.std.specs.List.{list_any, AllByRecursion}
use Rattle.std.specs.List.Sorted.{IsStrictlySortedBy}
use Rattle.std.specs.Str.{bytes_eq}
use Rattle.std.specs.Cmp.{IsTotalOrder}
use Rattle.std.specs.Ordering.{match_ordering, ordering_reverse}
use Rattle.std.specs.declared.cmp.Ordering.{Ordering}
use Rattle.std.specs.declared.cmp.Ordering.TheVariants.{Less, Equal, Greater}
use Rattle.std.specs.BTreeSet.{insert_key}
use Rattle.std.proofs.lemmas.Slice.Eq.{bytes_eq-Decides}
use Rattle.std.proofs.Math.Bool.{or-true}
use Rattle.dlk_tree.specs.Table.{all_distinct}
use Rattle.dlk_smt.specs.Smt.{put_all}

abbrev pub Has : {A : Type 0} → A → List A → Type 0
Has x [] = ⊥
Has x (y ∷ ys) = (x ≡ y) ⊎ Has x ys

pub Has-left : {A : Type 0} (x : A) (xs ys : List A) → Has x xs → Has x (xs ++ ys)
Has-left x [] ys h = absurd h
Has-left x (z ∷ xs) ys (inl e) = inl e
Has-left x (z ∷ xs) ys (inr h) = inr (Has-left x xs ys h)

pub Has-right : {A : Type 0} (x : A) (xs ys : List A) → Has x ys → Has x (xs ++ ys)
Has-right x [] ys h = h
Has-right x (z ∷ xs) ys h = inr (Has-right x xs ys h)

pub Has-either : {A : Type 0} (x : A) (xs ys : List A) → Has x (xs ++ ys) → Has x xs ⊎ Has x ys
Has-either x [] ys h = inr h
Has-either x (z ∷ xs) ys (inl e) = inl (inl e)
Has-either x (z ∷ xs) ys (inr h) = elim (Has-either x xs ys h) [ inl a ↦ inl (inr a) | inr b ↦ inr b ]

pub Has-map : {A B : Type 0} (f : A → B) (x : A) (xs : List A) → Has x xs → Has (f x) (map f xs)
Has-map f x [] h = absurd h
Has-map f x (z ∷ xs) (inl e) = inl (ap f e)
Has-map f x (z ∷ xs) (inr h) = inr (Has-map f x xs h)

pub Has-of-map : {A B : Type 0} (f : A → B) (y : B) (xs : List A) → Has y (map f xs) → (x : A) × Has x xs × (y ≡ f x)
Has-of-map f y [] h = absurd h
Has-of-map f y (z ∷ xs) (inl e) = (z, inl refl, e)
Has-of-map f y (z ∷ xs) (inr h) = let there = Has-of-map f y xs h in (there.0, inr there.1, there.2)

pub Has-filter : {A : Type 0} (p : A → Bool) (x : A) (xs : List A) → p x ≡ true → Has x xs → Has x (filter p xs)
Has-filter p x [] t h = absurd h
Has-filter p x (z ∷ xs) t (inl e) = subst (λ b. Has x (cond b (z ∷ filter p xs) (filter p xs))) (sym (ap p (sym e) ∙ t)) (inl e)
Has-filter p x (z ∷ xs) t (inr h) = by (p z) (Has-filter p x xs t h)
  where
    by : (b : Bool) → Has x (filter p xs) → Has x (cond b (z ∷ filter p xs) (filter p xs))
    by true there = inr there
    by false there = there

pub Has-at : {A : Type 0} (xs : List A) (i : ℕ) (d : A) → i < length xs → Has (get_or xs i d) xs
Has-at [] i d h = absurd (omega (arith, h))
Has-at (x ∷ xs) zero d h = inl refl
Has-at (x ∷ xs) (suc i) d h = inr (Has-at xs i d (omega (arith, h)))

pub any_Has : {A : Type 0} (p : A → Bool) (x : A) (xs : List A) → p x ≡ true → Has x xs → list_any p xs ≡ true
any_Has p x [] t h = absurd h
any_Has p x (z ∷ xs) t (inl e) = ap (λ b. b || list_any p xs) (ap p (sym e) ∙ t)
any_Has p x (z ∷ xs) t (inr h) = ap (λ b. p z || b) (any_Has p x xs t h) ∙ or-true (p z)

-- ---- what holds of each

pub Each-weaker : {A : Type 0} {P Q : A → Type 0} → ((x : A) → P x → Q x) → (xs : List A) → AllByRecursion P xs → AllByRecursion Q xs
Each-weaker f [] h = tt
Each-weaker f (x ∷ xs) h = (f x h.0, Each-weaker f xs h.1)

pub Each-append : {A : Type 0} (P : A → Type 0) (xs ys : List A) → AllByRecursion P xs → AllByRecursion P ys → AllByRecursion P (xs ++ ys)
Each-append P [] ys g h = h
Each-append P (x ∷ xs) ys g h = (g.0, Each-append P xs ys g.1 h)

pub Each-filter : {A : Type 0} (P : A → Type 0) (p : A → Bool) (xs : List A) → AllByRecursion P xs → AllByRecursion P (filter p xs)
Each-filter P p [] h = tt
Each-filter P p (x ∷ xs) h = by (p x) h.0 (Each-filter P p xs h.1)
  where
    by : (b : Bool) → P x → AllByRecursion P (filter p xs) → AllByRecursion P (cond b (x ∷ filter p xs) (filter p xs))
    by true g h = (g, h)
    by false g h = h

pub Each-at : {A : Type 0} (P : A → Type 0) (x : A) (xs : List A) → AllByRecursion P xs → Has x xs → P x
Each-at P x [] g h = absurd h
Each-at P x (y ∷ xs) g (inl e) = subst P (sym e) g.0
Each-at P x (y ∷ xs) g (inr h) = Each-at P x xs g.1 h

-- ---- keys in order

module _ {A : Type 0} (cmp : A → A → Ordering) where
  Each-insert : (P : A → Type 0) (ks : List A) (k : A) → AllByRecursion P ks → P k → AllByRecursion P (insert_key cmp ks k)
  Each-insert P [] k g h = (h, tt)
  Each-insert P (x ∷ xs) k g h = by (cmp k x) (Each-insert P xs k g.1 h)
    where
      by : (o : Ordering) → AllByRecursion P (insert_key cmp xs k) → AllByRecursion P (match_ordering o (k ∷ x ∷ xs) (x ∷ xs) (x ∷ insert_key cmp xs k))
      by Less later = (h, g)
      by Equal later = g
      by Greater later = (g.0, later)

  pub Each-put : (P : A → Type 0) (keys ks : List A) → AllByRecursion P keys → AllByRecursion P ks → AllByRecursion P (put_all cmp keys ks)
  Each-put P keys [] g h = g
  Each-put P keys (k ∷ ks) g h = Each-put P (insert_key cmp keys k) ks (Each-insert P keys k g h.0) h.1

  Has-inserted : (q : A) (ks : List A) (k : A) → Has q ks → Has q (insert_key cmp ks k)
  Has-inserted q [] k h = absurd h
  Has-inserted q (x ∷ xs) k h = by (cmp k x) h (Has-inserted q xs k)
    where
      by : (o : Ordering) → (q ≡ x) ⊎ Has q xs → (Has q xs → Has q (insert_key cmp xs k))
          → Has q (match_ordering o (k ∷ x ∷ xs) (x ∷ xs) (x ∷ insert_key cmp xs k))
      by Less there later = inr there
      by Equal there later = there
      by Greater (inl e) later = inl e
      by Greater (inr there) later = inr (later there)

  Has-kept : (q : A) (keys ks : List A) → Has q keys → Has q (put_all cmp keys ks)
  Has-kept q keys [] h = h
  Has-kept q keys (k ∷ ks) h = Has-kept q (insert_key cmp keys k) ks (Has-inserted q keys k h)

  module _ (exact : (a b : A) → cmp a b ≡ Equal → a ≡ b) where
    Has-insert : (ks : List A) (k : A) → Has k (insert_key cmp ks k)
    Has-insert [] k = inl refl
    Has-insert (x ∷ xs) k = by (cmp k x) refl (Has-insert xs k)
      where
        by : (o : Ordering) → cmp k x ≡ o → Has k (insert_key cmp xs k) → Has k (match_ordering o (k ∷ x ∷ xs) (x ∷ xs) (x ∷ insert_key cmp xs k))
        by Less e later = inl refl
        by Equal e later = inl (exact k x e)
        by Greater e later = inr later

    pub Has-put : (q : A) (keys ks : List A) → Has q ks → Has q (put_all cmp keys ks)
    Has-put q keys [] h = absurd h
    Has-put q keys (k ∷ ks) (inl e) = Has-kept q (insert_key cmp keys k) ks (subst (λ z. Has z (insert_key cmp keys k)) (sym e) (Has-insert keys k))
    Has-put q keys (k ∷ ks) (inr h) = Has-put q (insert_key cmp keys k) ks h

  module _ (total : IsTotalOrder cmp) where
    sorted-insert : (ks : List A) (k : A) → IsStrictlySortedBy cmp ks → IsStrictlySortedBy cmp (insert_key cmp ks k)
    unfolding IsStrictlySortedBy
    sorted-insert [] k s = (tt, tt)
    sorted-insert (x ∷ xs) k s = by (cmp k x) refl s (sorted-insert xs k s.1)
      where
        by : (o : Ordering) → cmp k x ≡ o → IsStrictlySortedBy cmp (x ∷ xs) → IsStrictlySortedBy cmp (insert_key cmp xs k)
            → IsStrictlySortedBy cmp (match_ordering o (k ∷ x ∷ xs) (x ∷ xs) (x ∷ insert_key cmp xs k))
        by Less e s later = ((e, Each-weaker (λ y h. total.trans k x y e h) xs s.0), s)
        by Equal e s later = s
        by Greater e s later = (Each-insert (λ y. cmp x y ≡ Less) xs k s.0 (total.antisymm x k ∙ ap ordering_reverse e), later)

    pub sorted-put : (keys ks : List A) → IsStrictlySortedBy cmp keys → IsStrictlySortedBy cmp (put_all cmp keys ks)
    sorted-put keys [] s = s
    sorted-put keys (k ∷ ks) s = sorted-put (insert_key cmp keys k) ks (sorted-insert keys k s)

    not_below_itself : (x : A) → cmp x x ≡ Less → ⊥
    not_below_itself x e = let wrong : Less ≡ Greater = sym e ∙ total.antisymm x x ∙ ap ordering_reverse e in absurd cc

-- ---- texts that stand once

unlike : (b : Bool) {A : Type 0} → Decides b A → (A → ⊥) → b ≡ false
unlike true d none = absurd (none (d.0 refl))
unlike false d none = refl

pub absent : (x : List ℕ) (ys : List (List ℕ)) → (Has x ys → ⊥) → list_any (bytes_eq x) ys ≡ false
absent x [] none = refl
absent x (y ∷ ys) none = λ i. unlike (bytes_eq x y) (bytes_eq-Decides x y) (λ e. none (inl e)) i || absent x ys (λ h. none (inr h)) i

pub present : (x : List ℕ) (ys : List (List ℕ)) → Has x ys → list_any (bytes_eq x) ys ≡ true
present x ys h = any_Has (bytes_eq x) x ys ((bytes_eq-Decides x x).1 refl) h

-- texts of keys in order, each key with another one, stand once
module _ {A : Type 0} (cmp : A → A → Ordering) (total : IsTotalOrder cmp) (f : A → List ℕ) (Good : A → Type 0)
    (one : (x y : A) → Good x → Good y → f x ≡ f y → x ≡ y)
    (rest : List (List ℕ)) (apart : (x : A) → Has (f x) rest → ⊥) where
  fresh_text : (x : A) (xs : List A) → IsStrictlySortedBy cmp (x ∷ xs) → AllByRecursion Good (x ∷ xs) → Has (f x) (map f xs ++ rest) → ⊥
  unfolding IsStrictlySortedBy
  fresh_text x xs s g h = elim (Has-either (f x) (map f xs) rest h) [
    | inr behind ↦ apart x behind
    | inl among ↦
        let y = Has-of-map f (f x) xs among in
        let same : x ≡ y.0 = one x y.0 g.0 (Each-at Good y.0 xs g.1 y.1) y.2 in
        not_below_itself cmp total x (ap (cmp x) same ∙ Each-at (λ z. cmp x z ≡ Less) y.0 xs s.0 y.1)
  ]

  pub distinct_texts : (xs : List A) → IsStrictlySortedBy cmp xs → AllByRecursion Good xs → all_distinct rest ≡ true → all_distinct (map f xs ++ rest) ≡ true
  unfolding IsStrictlySortedBy
  distinct_texts [] s g d = d
  distinct_texts (x ∷ xs) s g d = λ i. not (absent (f x) (map f xs ++ rest) (fresh_text x xs s g) i) && distinct_texts xs s.1 g.1 d i
