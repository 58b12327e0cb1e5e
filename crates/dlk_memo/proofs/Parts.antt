-- Tables in two parts.
use Rattle.std.proofs.Common.{◌≡◌, ℕ, suc, ◌+◌, ◌<◌, ◌⊎◌, inl, inr, Bool, true, false, cond, [], ◌∷◌, ◌++◌, length, get_or, Option, None, Some, refl}
use Rattle.std.proofs.Common.{sym, ap, subst, ◌∙◌, arith, true≢false}
use Rattle.std.specs.Prelude.{IsSome, nat_lt, not}
use Rattle.std.specs.List.{AllByRecursion, IsDistinct, position, position_or_len, slice_set}
use Rattle.std.specs.Map.{keys_of, set_value}
use Rattle.std.proofs.lemmas.Bool.{lt-ltb}
use Rattle.std.proofs.lemmas.Option.{same_Some, none-some}
use Rattle.std.proofs.lemmas.List.Quantifiers.{position-Some}
use Rattle.std.proofs.lemmas.Map.{lookup-set_value, keys-set_value}
use Rattle.dlk_store.specs.declared.Id.{Id}
use Rattle.dlk_store.specs.contracts.IdEq.TheImpl.Laws.{laws-law}
use Rattle.dlk_subst.specs.Looked.{same_id}
use Rattle.dlk_memo.specs.Tables.{Table, found, HasEachOnce, AreParts, Puts}
use Rattle.dlk_memo.proofs.Tables.{same_is}

-- ---- what both have

abbrev either : Option (Option Id) → Option (Option Id) → Option (Option Id)
either None far = far
either (Some r) far = Some r

pub found_both : (near far : Table) (k : Id) → found (near ++ far) k ≡ either (found near k) (found far k)
found_both [] far k = refl
found_both (e ∷ near) far k =
    elim (same_id k e.0) as (λ b. cond b (Some e.1) (found (near ++ far) k) ≡ either (cond b (Some e.1) (found near k)) (found far k))
    [ true ↦ refl | false ↦ found_both near far k ]

pub found_near : (near far : Table) (k : Id) (r : Option Id) → found near k ≡ Some r → found (near ++ far) k ≡ Some r
found_near near far k r e = found_both near far k ∙ ap (λ o. either o (found far k)) e

pub found_far : (near far : Table) (k : Id) → found near k ≡ None → found (near ++ far) k ≡ found far k
found_far near far k e = found_both near far k ∙ ap (λ o. either o (found far k)) e

either_none : (a b : Option (Option Id)) → either a b ≡ None → (a ≡ None) × (b ≡ None)
either_none None b e = (refl, e)
either_none (Some r) b e = absurd (none-some r (sym e))

pub none_both : (near far : Table) (k : Id) → found (near ++ far) k ≡ None → (found near k ≡ None) × (found far k ≡ None)
none_both near far k e = either_none (found near k) (found far k) (sym (found_both near far k) ∙ e)

-- ---- a change in one of them

pub puts_near : (near new far : Table) (id : Id) (r : Option Id) → Puts near new id r → Puts (near ++ far) (new ++ far) id r
puts_near near new far id r put k =
    found_both new far k ∙ ap (λ o. either o (found far k)) (put k) ∙ by (same_id id k) ∙ ap (cond (same_id id k) (Some r)) (sym (found_both near far k))
  where
    by : (b : Bool) → either (cond b (Some r) (found near k)) (found far k) ≡ cond b (Some r) (either (found near k) (found far k))
    by true = refl
    by false = refl

pub puts_far : (near far new : Table) (id : Id) (r : Option Id) → found near id ≡ None → Puts far new id r → Puts (near ++ far) (near ++ new) id r
puts_far near far new id r none put k =
    found_both near new k ∙ ap (either (found near k)) (put k) ∙ by (same_id id k) refl ∙ ap (cond (same_id id k) (Some r)) (sym (found_both near far k))
  where
    by : (b : Bool) → same_id id k ≡ b → either (found near k) (cond b (Some r) (found far k)) ≡ cond b (Some r) (either (found near k) (found far k))
    by true e = ap (λ o. either o (Some r)) (subst (λ j. found near j ≡ None) (same_is id k e) none)
    by false e = refl

pub parts_near : (near new far : Table) (id : Id) (r : Option Id) → Puts near new id r → HasEachOnce new → found far id ≡ None → AreParts near far
    → AreParts new far
parts_near near new far id r put once none h = record { near_once = once; far_once = h.far_once; apart = λ k s. by k s (same_id id k) refl }
  where
    by : (k : Id) → IsSome (found new k) → (b : Bool) → same_id id k ≡ b → found far k ≡ None
    by k s true e = subst (λ j. found far j ≡ None) (same_is id k e) none
    by k s false e = h.apart k (subst (λ o. IsSome o) (put k ∙ ap (λ b. cond b (Some r) (found near k)) e) s)

pub parts_far : (near far new : Table) (id : Id) (r : Option Id) → Puts far new id r → HasEachOnce new → found near id ≡ None → AreParts near far
    → AreParts near new
parts_far near far new id r put once none h = record { near_once = h.near_once; far_once = once; apart = λ k s. by k s (same_id id k) refl }
  where
    by : (k : Id) → IsSome (found near k) → (b : Bool) → same_id id k ≡ b → found new k ≡ None
    by k s true e = absurd (true≢false (sym (subst (λ o. IsSome o) (subst (λ j. found near j ≡ None) (same_is id k e) none) s)))
    by k s false e = put k ∙ ap (λ b. cond b (Some r) (found far k)) e ∙ h.apart k s

-- ---- no id stands twice

absent_by : (b : Bool) (v : Option Id) (o : Option (Option Id)) → cond b (Some v) o ≡ None → (b ≡ false) × (o ≡ None)
absent_by true v o e = absurd (none-some v (sym e))
absent_by false v o e = (refl, e)

absent : (id : Id) (table : Table) → found table id ≡ None → AllByRecursion (λ j. same_id id j ≡ false) (keys_of table)
absent id [] e = tt
absent id (x ∷ table) e = let parts = absent_by (same_id id x.0) x.1 (found table id) e in (parts.0, absent id table parts.1)

each_both : (P : Id → Type 0) (near far : Table) → AllByRecursion P (keys_of near) → AllByRecursion P (keys_of far) → AllByRecursion P (keys_of (near ++ far))
each_both P [] far a b = b
each_both P (e ∷ near) far a b = (a.0, each_both P near far a.1 b)

some_there : (b : Bool) (v : Option Id) (o : Option (Option Id)) → (b ≡ true) → IsSome (cond b (Some v) o)
some_there true v o e = refl
some_there false v o e = absurd (true≢false (sym e))

some_later : (b : Bool) (v : Option Id) (o : Option (Option Id)) → IsSome o → IsSome (cond b (Some v) o)
some_later true v o s = refl
some_later false v o s = s

once_joined : (near far : Table) → HasEachOnce near → HasEachOnce far → ((k : Id) → IsSome (found near k) → found far k ≡ None) → HasEachOnce (near ++ far)
unfolding IsDistinct
once_joined [] far n f apart = f
once_joined (e ∷ near) far n f apart = (
  each_both (λ j. same_id e.0 j ≡ false) near far n.0 (absent e.0 far (apart e.0 (some_there (same_id e.0 e.0) e.1 (found near e.0) (laws-law.refl e.0)))),
  once_joined near far n.1 f (λ k s. apart k (some_later (same_id k e.0) e.1 (found near k) s)),
)

pub once_both : {near far : Table} → AreParts near far → HasEachOnce (near ++ far)
once_both {near} {far} h = once_joined near far h.near_once h.far_once h.apart

pub no_parts : (near far : Table) → near ≡ [] → far ≡ [] → AreParts near far
unfolding IsDistinct
no_parts near far n f = record {
  near_once = subst HasEachOnce (sym n) tt;
  far_once = subst HasEachOnce (sym f) tt;
  apart = λ k s. ap (λ t. found t k) f;
}

-- ---- one more at the end of the row

abbrev one : Id → Option Id → Table
one id r = (id, r) ∷ []

pub pushed_puts : (near : Table) (id : Id) (r : Option Id) → found near id ≡ None → Puts near (near ++ one id r) id r
pushed_puts near id r none k = found_both near (one id r) k ∙ ap (λ b. either (found near k) (cond b (Some r) None)) (laws-law.symm k id)
    ∙ by (same_id id k) refl
  where
    same : (o : Option (Option Id)) → either o None ≡ o
    same None = refl
    same (Some v) = refl

    by : (b : Bool) → same_id id k ≡ b → either (found near k) (cond b (Some r) None) ≡ cond b (Some r) (found near k)
    by true e = ap (λ o. either o (Some r)) (subst (λ j. found near j ≡ None) (same_is id k e) none)
    by false e = same (found near k)

pub pushed_once : (near : Table) (id : Id) (r : Option Id) → found near id ≡ None → HasEachOnce near → HasEachOnce (near ++ one id r)
unfolding IsDistinct
pushed_once near id r none once = once_joined near (one id r) once (tt, tt) apart
  where
    empty : Option (Option Id)
    empty = None

    by : (k : Id) → IsSome (found near k) → (b : Bool) → same_id id k ≡ b → cond b (Some r) empty ≡ empty
    by k s true e = absurd (true≢false (sym (subst (λ o. IsSome o) (subst (λ j. found near j ≡ None) (same_is id k e) none) s)))
    by k s false e = refl

    apart : (k : Id) → IsSome (found near k) → found (one id r) k ≡ None
    apart k s = ap (λ b. cond b (Some r) empty) (laws-law.symm k id) ∙ by k s (same_id id k) refl

-- ---- a place in the row

-- the first entry of the id
pub record IsPlace (row : Table) (id : Id) (i : ℕ) : Type 0 where
  pub within : i < length row
  pub there : (d : Id × Option Id) → found row id ≡ Some (get_or row i d).1
  pub sets : (r : Option Id) → slice_set row i (id, r) ≡ set_value (same_id id) row r

abbrev is_of : Id → Id × Option Id → Bool
is_of id e = same_id id e.0

place_here : (id : Id) (e : Id × Option Id) (row : Table) → same_id id e.0 ≡ true → IsPlace (e ∷ row) id 0
place_here id e row is = record {
  within = omega arith;
  there = λ d. ap (λ b. cond b (Some e.1) (found row id)) is;
  sets = λ r. ap (λ k. (k, r) ∷ row) (same_is id e.0 is) ∙ sym (ap (λ b. cond b ((e.0, r) ∷ row) (e ∷ set_value (same_id id) row r)) is);
}

place_later : (id : Id) (e : Id × Option Id) (row : Table) (i : ℕ) → same_id id e.0 ≡ false → IsPlace row id i → IsPlace (e ∷ row) id (suc i)
place_later id e row i is p = record {
  within = let w = p.within in omega (arith, w);
  there = λ d. ap (λ b. cond b (Some e.1) (found row id)) is ∙ p.there d;
  sets = λ r. ap (λ l. e ∷ l) (p.sets r) ∙ sym (ap (λ b. cond b ((e.0, r) ∷ row) (e ∷ set_value (same_id id) row r)) is);
}

-- at this place, or nowhere
abbrev IsAtOr : Table → Id → ℕ → Type 0
IsAtOr row id i = IsPlace row id i ⊎ ((i ≡ length row) × (found row id ≡ None))

later_or : (id : Id) (e : Id × Option Id) (row : Table) (i : ℕ) → same_id id e.0 ≡ false → IsAtOr row id i → IsAtOr (e ∷ row) id (suc i)
later_or id e row i is (inl p) = inl (place_later id e row i is p)
later_or id e row i is (inr p) = inr (ap suc p.0, ap (λ b. cond b (Some e.1) (found row id)) is ∙ p.1)

place_by : (id : Id) (e : Id × Option Id) (row : Table) (i : ℕ) → IsAtOr row id i → (b : Bool) → same_id id e.0 ≡ b
    → IsAtOr (e ∷ row) id (cond (not b) (1 + i) 0)
place_by id e row i p true is = inl (place_here id e row is)
place_by id e row i p false is = let one_on : suc i ≡ 1 + i = omega arith in subst (IsAtOr (e ∷ row) id) one_on (later_or id e row i is p)

place_or : (id : Id) (row : Table) → IsAtOr row id (position_or_len (is_of id) row)
place_or id [] = inr (refl, refl)
place_or id (e ∷ row) = place_by id e row (position_or_len (is_of id) row) (place_or id row) (same_id id e.0) refl

-- what a search for the id gives
module _ (row : Table) (id : Id) where
  abbrev at : ℕ
  at = position_or_len (is_of id) row

  number : (i : ℕ) (b : Bool) → Some i ≡ cond b (Some at) None → i ≡ at
  number i true h = same_Some i at h
  number i false h = absurd (none-some i (sym h))

  place_of : (i : ℕ) → i ≡ at → i < length row → IsAtOr row id at → IsPlace row id i
  place_of i is less (inl p) = subst (IsPlace row id) (sym is) p
  place_of i is less (inr none) = absurd (let e = none.0 in omega (arith, is, less, e))

  pub placed : (seen : Table) → seen ≡ row → (i : ℕ) → Some i ≡ position (is_of id) seen → IsPlace row id i
  placed seen same i there =
      let is = there ∙ ap (position (is_of id)) same in
      place_of i (number i (nat_lt at (length row)) is) (position-Some (is_of id) row i (id, None) (sym is)).0 (place_or id row)

  nowhere : nat_lt at (length row) ≡ false → IsAtOr row id at → found row id ≡ None
  nowhere above (inl p) = absurd (true≢false (sym (lt-ltb at (length row) p.within) ∙ above))
  nowhere above (inr none) = none.1

  none_by : (b : Bool) → nat_lt at (length row) ≡ b → None ≡ cond b (Some at) None → found row id ≡ None
  none_by true e h = absurd (none-some at h)
  none_by false e h = nowhere e (place_or id row)

  pub not_placed : (seen : Table) → seen ≡ row → None ≡ position (is_of id) seen → found row id ≡ None
  not_placed seen same nowhere_is = none_by (nat_lt at (length row)) refl (nowhere_is ∙ ap (position (is_of id)) same)

-- ---- the changes of a table

module _ {near far : Table} (h : AreParts near far) (id : Id) (r : Option Id) where
  -- one more at the end of the row
  module _ {new : Table} (is : new ≡ near ++ one id r) (none : found (near ++ far) id ≡ None) where
    push_puts : Puts near new id r
    push_puts = subst (λ t. Puts near t id r) (sym is) (pushed_puts near id r (none_both near far id none).0)

    pub pushed : Puts (near ++ far) (new ++ far) id r
    pushed = puts_near near new far id r push_puts

    pub pushed_parts : AreParts new far
    pushed_parts =
        let apart = none_both near far id none in
        parts_near near new far id r push_puts (subst HasEachOnce (sym is) (pushed_once near id r apart.0 h.near_once)) apart.1 h

  -- another result at a place in the row
  module _ {new : Table} {i : ℕ} (is : new ≡ slice_set near i (id, r)) (p : IsPlace near id i) where
    set_puts : Puts near new id r
    set_puts k =
        ap (λ t. found t k) (is ∙ p.sets r)
        ∙ lookup-set_value laws-law (same_id id) (laws-law.congr id) k r near (subst (λ o. IsSome o) (sym (p.there (id, r))) refl)

    pub set_at : Puts (near ++ far) (new ++ far) id r
    set_at = puts_near near new far id r set_puts

    set_keys : keys_of new ≡ keys_of near
    set_keys = ap keys_of (is ∙ p.sets r) ∙ keys-set_value (same_id id) near r

    pub set_parts : AreParts new far
    set_parts =
        parts_near near new far id r set_puts (subst (IsDistinct same_id) (sym set_keys) h.near_once)
        (h.apart id (subst (λ o. IsSome o) (sym (p.there (id, r))) refl)) h

  -- an entry of the map
  module _ (new : Table) (none : found near id ≡ None) (put : Puts far new id r) where
    pub put_far : Puts (near ++ far) (near ++ new) id r
    put_far = puts_far near far new id r none put

    pub far_parts : HasEachOnce new → AreParts near new
    far_parts once = parts_far near far new id r put once none h

-- a table that is as it was has its parts
pub once_far : {near far new : Table} → AreParts near far → new ≡ far → HasEachOnce (near ++ new)
once_far {near} {far} h is = subst (λ t. HasEachOnce (near ++ t)) (sym is) (once_both h)
