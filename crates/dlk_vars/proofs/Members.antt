-- What numbers say of variables.
use Rattle.std.proofs.Common.{◌≡◌, ℕ, ◌<◌, ◌≤◌, ◌==◌, Bool, true, false, ◌||◌, ◌&&◌, not, List, [], ◌∷◌, ◌++◌, length, Option, None, Some, slice_get}
use Rattle.std.proofs.Common.{refl, sym, ap, ◌∙◌, true≢false, inl, inr, ◌⊎◌, arith, eqb-true, length-append, get_or}
use Rattle.std.specs.Prelude.{IsTrue, ◌↔◌}
use Rattle.std.specs.Option.{option_map_or}
use Rattle.std.proofs.lemmas.Bool.{cases_lt, eq-eqb, ne_eqb}
use Rattle.std.proofs.lemmas.Option.{none-some, same_Some, slice_get-get_or}
use Rattle.std.proofs.Math.Bool.{or-false}
use Rattle.dlk_tree.specs.Names.{is_name}
use Rattle.dlk_tree.specs.Statics.{just, either, both, without}
use Rattle.dlk_tree.specs.Tests.{var_eq}
use Rattle.dlk_tree.specs.Listed.{IsInhabited}
use Rattle.dlk_tree.specs.declared.op.Var.{Var}
use Rattle.dlk_tree.proofs.Fresh.{fresh, fresh_not_among, longest}
use Rattle.dlk_tree.proofs.SomeVar.{letters}
use Rattle.dlk_vars.specs.Rows.{Row, has_number, ByNumber}
use Rattle.dlk_vars.specs.Tables.{number_of, IsTable, Grows}
use Rattle.dlk_vars.specs.Sets.{has, IsWithin, StandsFor, Gains, Picks, IsNonempty, AreMeeting}
use Rattle.dlk_vars.proofs.Numbering.{stands_at, has_its_number, no_number, keeps_number, new_number, var_itself, var_same}

-- ---- what a set holds

-- a set of all numbers or of none
pub holds_alike : (r : Row) (b : Bool) → ((n : ℕ) → has_number r n ≡ b) → r.others ≡ b → StandsFor r (λ _. b)
holds_alike r b numbers flag = record {
  members = λ table v. by (number_of table v);
  within = λ table n h. numbers n ∙ sym flag;
}
  where
    by : (o : Option ℕ) → option_map_or (has_number r) o r.others ≡ b
    by None = flag
    by (Some n) = numbers n

-- two sets joined
module _ (test : Bool → Bool → Bool) (one other r : Row) (joined : ByNumber test one other r) where
  joined_at : (o : Option ℕ) → option_map_or (has_number r) o r.others
      ≡ test (option_map_or (has_number one) o one.others) (option_map_or (has_number other) o other.others)
  joined_at None = joined.others
  joined_at (Some n) = joined.numbers n

  joined_within : (table : List Var) → IsWithin table one → IsWithin table other → IsWithin table r
  joined_within table p q n h = joined.numbers n ∙ (λ i. test (p n h i) (q n h i)) ∙ sym joined.others

pub union_picks : (one other r : Row) → ByNumber ◌||◌ one other r → Picks either one other r
union_picks one other r joined = record {
  members = λ table v. joined_at ◌||◌ one other r joined (number_of table v);
  within = joined_within ◌||◌ one other r joined;
}

pub meet_picks : (one other r : Row) → ByNumber ◌&&◌ one other r → Picks both one other r
meet_picks one other r joined = record {
  members = λ table v. joined_at ◌&&◌ one other r joined (number_of table v);
  within = joined_within ◌&&◌ one other r joined;
}

pub minus_picks : (one other r : Row) → ByNumber (λ a b. a && not b) one other r → Picks without one other r
minus_picks one other r joined = record {
  members = λ table v. joined_at (λ a b. a && not b) one other r joined (number_of table v);
  within = joined_within (λ a b. a && not b) one other r joined;
}

-- one number more
pub with_gains : (s r : Row) (n : ℕ) → ((m : ℕ) → has_number r m ≡ (has_number s m || m == n)) → r.others ≡ s.others → Gains s n r
with_gains s r n numbers flag = record { members = members; within = within }
  where
    not_it : (w v : Var) → (w ≡ v → ⊥) → var_eq w v ≡ false
    not_it w v ne = go (var_eq w v) refl
      where
        go : (b : Bool) → var_eq w v ≡ b → b ≡ false
        go true e = absurd (ne (var_same w v e))
        go false e = refl

    members : (table : List Var) (v : Var) → number_of table v ≡ Some n → (w : Var) → has table r w ≡ either (has table s) (just v) w
    members table v e w = by (number_of table w) refl
      where
        by : (o : Option ℕ) → number_of table w ≡ o → option_map_or (has_number r) o r.others ≡ (option_map_or (has_number s) o s.others || var_eq w v)
        by None q =
            let off = not_it w v (λ (p : w ≡ v). none-some n (sym q ∙ ap (number_of table) p ∙ e)) in
            flag ∙ sym (ap (λ b. s.others || b) off ∙ or-false s.others)
        by (Some m) q = numbers m ∙ ap (λ b. has_number s m || b) (same (m == n) refl)
          where
            same : (b : Bool) → (m == n) ≡ b → b ≡ var_eq w v
            same true t =
                let there = sym (stands_at table w m q) ∙ ap (slice_get table) (eqb-true m n t) ∙ stands_at table v n e in
                sym (ap (λ u. var_eq u v) (same_Some w v there) ∙ var_itself v)
            same false t =
                sym (not_it w v (λ (p : w ≡ v). let k = same_Some m n (sym q ∙ ap (number_of table) p ∙ e) in true≢false (sym (eq-eqb m n k) ∙ t)))

    within : (table : List Var) → n < length table → IsWithin table s → IsWithin table r
    within table h p m l =
        numbers m ∙ (λ i. p m l i || ne_eqb m n (λ e. omega (arith, e, h, l)) i) ∙ or-false s.others ∙ sym flag

-- ---- some variable

-- a variable without a number in this table
pub fresh_named : (table : List Var) → IsTrue (is_name (fresh table).name)
fresh_named table = ap (λ b. b && true && true) (letters (longest table))

fresh_number : (table : List Var) → number_of table (fresh table) ≡ None
fresh_number table = no_number table (fresh table) (fresh_not_among table)

-- a number that a test picks is that of a variable, or the test picks the variables without a number
module _ (table : List Var) (ok : IsTable table) (test : ℕ → Bool) (flag : Bool) (within : (n : ℕ) → length table ≤ n → test n ≡ flag) where
  pub some_variable : ((n : ℕ) × IsTrue (test n)) → IsInhabited (λ v. option_map_or test (number_of table v) flag)
  some_variable w = by (cases_lt w.0 (length table))
    where
      by : (w.0 < length table) ⊎ (length table ≤ w.0) → IsInhabited (λ v. option_map_or test (number_of table v) flag)
      by (inl h) =
          let v = get_or table w.0 (fresh table) in
          let at = slice_get-get_or table w.0 (fresh table) h in
          (v, ok.named w.0 v at, ap (λ o. option_map_or test o flag) (has_its_number table ok v w.0 at) ∙ w.1)
      by (inr h) = (fresh table, fresh_named table, ap (λ o. option_map_or test o flag) (fresh_number table) ∙ sym (within w.0 h) ∙ w.1)

  pub some_number : IsInhabited (λ v. option_map_or test (number_of table v) flag) → (n : ℕ) × IsTrue (test n)
  some_number m = by (number_of table m.0) m.2
    where
      by : (o : Option ℕ) → IsTrue (option_map_or test o flag) → (n : ℕ) × IsTrue (test n)
      by None h = (length table, within (length table) (omega arith) ∙ h)
      by (Some n) h = (n, h)

pub some_nonempty : (answer : Bool) (r : Row) → IsTrue answer ↔ ((n : ℕ) × IsTrue (has_number r n)) → IsNonempty answer r
some_nonempty answer r h = record {
  some = λ table ok within.
      (λ t. some_variable table ok (has_number r) r.others within (h.0 t), λ m. h.1 (some_number table ok (has_number r) r.others within m));
}

-- both sets at once
both_at : (one other : Row) (o : Option ℕ) → option_map_or (λ n. has_number one n && has_number other n) o (one.others && other.others)
    ≡ (option_map_or (has_number one) o one.others && option_map_or (has_number other) o other.others)
both_at one other None = refl
both_at one other (Some n) = refl

pub some_meeting : (answer : Bool) (one other : Row) → IsTrue answer ↔ ((n : ℕ) × IsTrue (has_number one n && has_number other n)) → AreMeeting answer one other
some_meeting answer one other h = record {
  some = λ table ok p q.
      let test = λ (n : ℕ). has_number one n && has_number other n in
      let flag = one.others && other.others in
      let within : (n : ℕ) → length table ≤ n → (has_number one n && has_number other n) ≡ (one.others && other.others) = λ n l i. p n l i && q n l i in (
        λ t. let m = some_variable table ok test flag within (h.0 t) in (m.0, m.1, sym (both_at one other (number_of table m.0)) ∙ m.2),
        λ m. h.1 (some_number table ok test flag within (m.0, m.1, both_at one other (number_of table m.0) ∙ m.2)),
      );
}

-- ---- a table that grows

-- a variable stays in a set or out of it, numbered or not
pub has_stays : (old new : List Var) (r : Row) → Grows old new → IsWithin old r → (v : Var) → has new r v ≡ has old r v
has_stays old new r grows within v = by (number_of old v) refl
  where
    by : (o : Option ℕ) → number_of old v ≡ o → has new r v ≡ option_map_or (has_number r) o r.others
    by (Some n) e = ap (λ o. option_map_or (has_number r) o r.others) (ap (λ t. number_of t v) grows.is ∙ keeps_number old grows.more v n e)
    by None e = ap (λ o. option_map_or (has_number r) o r.others) (ap (λ t. number_of t v) grows.is) ∙ late (number_of (old ++ grows.more) v) refl
      where
        late : (o : Option ℕ) → number_of (old ++ grows.more) v ≡ o → option_map_or (has_number r) o r.others ≡ r.others
        late None q = refl
        late (Some n) q = within n (new_number old grows.more v n e q)

pub within_stays : (old new : List Var) (r : Row) → Grows old new → IsWithin old r → IsWithin new r
within_stays old new r grows within n h = within n (omega (arith, h, ap length grows.is, length-append old grows.more))

pub grows_on : (a b c : List Var) → Grows a b → Grows b c → Grows a c
grows_on a b c p q = record {
  more = p.more ++ q.more;
  is = q.is ∙ ap (λ l. l ++ q.more) p.is ∙ append_assoc a p.more q.more;
}
  where
    append_assoc : (xs ys zs : List Var) → (xs ++ ys) ++ zs ≡ xs ++ (ys ++ zs)
    append_assoc [] ys zs = refl
    append_assoc (x ∷ xs) ys zs = ap (λ l. x ∷ l) (append_assoc xs ys zs)
