-- What the numbers of a table say.
use Rattle.std.proofs.Common.{◌≡◌, ℕ, ◌<◌, ◌≤◌, Bool, true, false, cond, List, [], ◌∷◌, ◌++◌, length, get_or, Option, None, Some, slice_get, refl}
use Rattle.std.proofs.Common.{sym, ap, subst, ◌∙◌, true≢false, inl, inr, ◌⊎◌, arith, lt-ltb, length-append}
use Rattle.std.specs.Prelude.{IsTrue, nat_lt}
use Rattle.std.specs.List.{position_or_len}
use Rattle.std.proofs.lemmas.Bool.{cases_lt, cond-true, cond-false, ltb-false}
use Rattle.std.proofs.lemmas.Option.{slice_get-get_or, slice_get_within, get_or_from_slice_get, none-some}
use Rattle.std.proofs.lemmas.List.{get_or_append_left, get_or_push}
use Rattle.std.proofs.lemmas.List.Folds.{list_any_none, list_any-from_Any}
use Rattle.std.proofs.lemmas.List.Quantifiers.{position-Some}
use Rattle.std.proofs.lemmas.List.Sums.{position_or_len_is, fails_before_first}
use Rattle.dlk_tree.specs.Names.{is_name}
use Rattle.dlk_tree.specs.Tests.{var_eq}
use Rattle.dlk_tree.specs.Listed.{is_among}
use Rattle.dlk_tree.specs.declared.op.Var.{Var}
use Rattle.dlk_tree.proofs.Same.{var_eq_decides}
use Rattle.dlk_vars.specs.Tables.{number_of, numbered, IsTable}

pub var_itself : (v : Var) → var_eq v v ≡ true
var_itself v = (var_eq_decides v v).1 refl

pub var_same : (v w : Var) → var_eq v w ≡ true → v ≡ w
var_same v w = (var_eq_decides v w).0

-- ---- a variable that has a number

-- it stands at its number
pub stands_at : (table : List Var) (v : Var) (n : ℕ) → number_of table v ≡ Some n → slice_get table n ≡ Some v
stands_at table v n e =
    let p = position-Some (var_eq v) table n v e in
    slice_get-get_or table n v p.0 ∙ ap Some (sym (var_same v (get_or table n v) p.1))

-- the first place at which it stands
first_at : (table : List Var) (v : Var) (n : ℕ) → n < length table → ((k : ℕ) → k < n → var_eq v (get_or table k v) ≡ false)
    → var_eq v (get_or table n v) ≡ true → number_of table v ≡ Some n
first_at table v n within before here =
    let at = position_or_len_is (var_eq v) table n v (omega (arith, within)) before (λ _. here) in
    ap (λ k. cond (nat_lt k (length table)) (Some k) None) at ∙ cond-true (nat_lt n (length table)) (Some n) None (lt-ltb n (length table) within)

-- the place at which it stands in a table
pub has_its_number : (table : List Var) → IsTable table → (v : Var) (n : ℕ) → slice_get table n ≡ Some v → number_of table v ≡ Some n
has_its_number table ok v n at =
    first_at table v n (slice_get_within table n v at) before (subst (λ w. var_eq v w ≡ true) (sym (get_or_from_slice_get table n v v at)) (var_itself v))
  where
    before : (k : ℕ) → k < n → var_eq v (get_or table k v) ≡ false
    before k h = go (var_eq v (get_or table k v)) refl
      where
        go : (b : Bool) → var_eq v (get_or table k v) ≡ b → b ≡ false
        go false e = refl
        go true e =
            let within = slice_get_within table n v at in
            let there = slice_get-get_or table k v (omega (arith, h, within)) ∙ ap Some (sym (var_same v (get_or table k v) e)) in
            let same = ok.once k n v there at in
            absurd (omega (arith, same, h))

pub among : (table : List Var) (v : Var) (n : ℕ) → number_of table v ≡ Some n → is_among table v ≡ true
among table v n e =
    let p = position-Some (var_eq v) table n v e in
    list_any-from_Any (var_eq v) table (n, v, p.0, sym (var_same v (get_or table n v) p.1), var_itself v)

-- ---- a variable without a number

pub nowhere_before : (table : List Var) (v : Var) → number_of table v ≡ None → (k : ℕ) (d : Var) → k < length table → var_eq v (get_or table k d) ≡ false
nowhere_before table v e k d h = go (nat_lt (position_or_len (var_eq v) table) (length table)) refl
  where
    go : (b : Bool) → nat_lt (position_or_len (var_eq v) table) (length table) ≡ b → var_eq v (get_or table k d) ≡ false
    go true t = absurd (none-some (position_or_len (var_eq v) table) (sym e ∙ ap (λ c. cond c (Some (position_or_len (var_eq v) table)) None) t))
    go false t = fails_before_first (var_eq v) table k d (omega (arith, ltb-false (position_or_len (var_eq v) table) (length table) t, h))

pub not_among : (table : List Var) (v : Var) → number_of table v ≡ None → is_among table v ≡ false
not_among table v e = list_any_none (var_eq v) table (λ k d h. nowhere_before table v e k d h)

-- a variable that isn't in the table has no number
pub no_number : (table : List Var) (v : Var) → is_among table v ≡ false → number_of table v ≡ None
no_number table v e = go (number_of table v) refl
  where
    go : (o : Option ℕ) → number_of table v ≡ o → o ≡ None
    go None q = refl
    go (Some n) q = absurd (true≢false (sym (among table v n q) ∙ e))

-- ---- a table that grows

pub keeps_number : (old more : List Var) (v : Var) (n : ℕ) → number_of old v ≡ Some n → number_of (old ++ more) v ≡ Some n
keeps_number old more v n e =
    let p = position-Some (var_eq v) old n v e in
    let same = λ (k : ℕ) (h : k < length old). get_or_append_left old more v k h in
    first_at (old ++ more) v n (omega (arith, p.0, length-append old more))
    (λ k h. ap (var_eq v) (same k (omega (arith, p.0, h))) ∙ p.2 k h)
    (ap (var_eq v) (same n p.0) ∙ p.1)

pub new_number : (old more : List Var) (v : Var) (n : ℕ) → number_of old v ≡ None → number_of (old ++ more) v ≡ Some n → length old ≤ n
new_number old more v n none e = by (cases_lt n (length old))
  where
    by : (n < length old) ⊎ (length old ≤ n) → length old ≤ n
    by (inr h) = h
    by (inl h) =
        let p = position-Some (var_eq v) (old ++ more) n v e in
        absurd (true≢false (sym p.1 ∙ ap (var_eq v) (get_or_append_left old more v n h) ∙ nowhere_before old v none n v h))

-- a table with one more variable at its end
pub one_more : (table : List Var) (v : Var) → IsTable table → number_of table v ≡ None → IsTrue (is_name v.name) → IsTable (table ++ v ∷ [])
one_more table v ok none real = record { once = once; named = named }
  where
    -- an old place, or the last
    at : (i : ℕ) (w : Var) → slice_get (table ++ v ∷ []) i ≡ Some w → (slice_get table i ≡ Some w) ⊎ ((i ≡ length table) × (w ≡ v))
    at i w e = by (cases_lt i (length table))
      where
        within : i < length (table ++ v ∷ [])
        within = slice_get_within (table ++ v ∷ []) i w e

        by : (i < length table) ⊎ (length table ≤ i) → (slice_get table i ≡ Some w) ⊎ ((i ≡ length table) × (w ≡ v))
        by (inl h) =
            let same = sym (get_or_append_left table (v ∷ []) w i h) ∙ get_or_from_slice_get (table ++ v ∷ []) i w w e in
            inl (slice_get-get_or table i w h ∙ ap Some same)
        by (inr h) =
            let last : i ≡ length table = omega (arith, within, h, length-append table (v ∷ [])) in
            inr (last, sym (get_or_from_slice_get (table ++ v ∷ []) i w w e) ∙ get_or_push table v w i (sym last))

    -- v stands at no old place
    not_old : (i : ℕ) → slice_get table i ≡ Some v → ⊥
    not_old i e =
        let within = slice_get_within table i v e in
        true≢false (sym (var_itself v) ∙ ap (var_eq v) (sym (get_or_from_slice_get table i v v e)) ∙ nowhere_before table v none i v within)

    once : (i j : ℕ) (w : Var) → slice_get (table ++ v ∷ []) i ≡ Some w → slice_get (table ++ v ∷ []) j ≡ Some w → i ≡ j
    once i j w p q = by (at i w p) (at j w q)
      where
        by : (slice_get table i ≡ Some w) ⊎ ((i ≡ length table) × (w ≡ v)) → (slice_get table j ≡ Some w) ⊎ ((j ≡ length table) × (w ≡ v)) → i ≡ j
        by (inl a) (inl b) = ok.once i j w a b
        by (inl a) (inr b) = absurd (not_old i (a ∙ ap Some b.1))
        by (inr a) (inl b) = absurd (not_old j (b ∙ ap Some a.1))
        by (inr a) (inr b) = a.0 ∙ sym b.0

    named : (i : ℕ) (w : Var) → slice_get (table ++ v ∷ []) i ≡ Some w → IsTrue (is_name w.name)
    named i w e = by (at i w e)
      where
        by : (slice_get table i ≡ Some w) ⊎ ((i ≡ length table) × (w ≡ v)) → IsTrue (is_name w.name)
        by (inl a) = ok.named i w a
        by (inr b) = ap (λ u. is_name u.name) b.1 ∙ real

-- what an insertion of a variable without a number leaves
pub inserted : (table new : List Var) (v : Var) → IsTable table → number_of table v ≡ None → IsTrue (is_name v.name) → new ≡ numbered table v → IsTable new
inserted table new v ok none real e =
    subst IsTable (sym (e ∙ cond-false (is_among table v) table (table ++ v ∷ []) (not_among table v none))) (one_more table v ok none real)
