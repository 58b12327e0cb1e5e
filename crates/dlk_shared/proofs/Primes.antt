-- Sets with x' for each x in them, made by going through the table of variables.
use Rattle.std.proofs.Common.{◌≡◌, ℕ, ◌+◌, ◌<◌, Bool, true, false, ◌||◌, ◌&&◌, not, List, [], ◌∷◌, length, get_or, take, slice_get, Some, refl, sym}
use Rattle.std.proofs.Common.{ap, subst, ◌∙◌, true≢false}
use Rattle.std.specs.List.{list_any}
use Rattle.std.specs.Option.{option_map_or}
use Rattle.std.proofs.lemmas.List.{take_more, get_or_append_left}
use Rattle.std.proofs.lemmas.List.Folds.{list_any-append}
use Rattle.std.proofs.lemmas.List.Quantifiers.{position-Some}
use Rattle.std.proofs.lemmas.Map.Keys.{any_passes_from_place}
use Rattle.std.proofs.lemmas.Option.{slice_get-get_or}
use Rattle.std.proofs.Math.Bool.{or_self}
use Rattle.dlk_tree.specs.Listed.{is_among}
use Rattle.dlk_tree.specs.Statics.{plain, prime, just, and_primes}
use Rattle.dlk_tree.specs.Tests.{var_eq}
use Rattle.dlk_tree.specs.declared.op.Var.{Var}
use Rattle.dlk_vars.specs.Rows.{Row, has_number}
use Rattle.dlk_vars.specs.Tables.{number_of, IsTable, Grows}
use Rattle.dlk_vars.specs.Sets.{has, IsWithin, Gains}
use Rattle.dlk_vars.proofs.Members.{has_stays, within_stays}
use Rattle.dlk_vars.proofs.Numbering.{var_itself, var_same, has_its_number, no_number}
use Rattle.dlk_shared.specs.SetTables.{var_at, is_prime_of, GainsPrime, ArePlainToo}
use Rattle.dlk_shared.proofs.PlainToo.{no_more}

-- ---- one variable

pub unchanged : (old : List Var) (set from : Row) (n : ℕ) → (not (var_at old n).primed && has_number from n) ≡ false → IsWithin old set
    → GainsPrime old set from n old set
unchanged old set from n e within = record {
  members = λ v. sym (ap (λ t. has old set v || (t && var_eq v (prime (var_at old n).name))) e ∙ no_more (has old set v));
  within = within;
}

pub gained : (old new : List Var) (set from r : Row) (n p : ℕ) → (not (var_at old n).primed && has_number from n) ≡ true → Grows old new
    → number_of new (prime (var_at old n).name) ≡ Some p → Gains set p r → IsWithin old set → GainsPrime old set from n new r
gained old new set from r n p e grows number g within =
    let x = prime (var_at old n).name in
    record {
      members = λ v. g.members new x number v ∙ ap (λ b. b || just x v) (has_stays old new set grows within v)
          ∙ sym (ap (λ t. has old set v || (t && var_eq v x)) e);
      within = g.within new (position-Some (var_eq x) new p x number).0 (within_stays old new set grows within);
    }

-- the unprimed variable that stands at n is numbered
pub plain_there : (vars : List Var) (n : ℕ) (w : Var) → slice_get vars n ≡ Some w → w.primed ≡ false → is_among vars (plain w.name) ≡ true
plain_there vars n w at e =
    let is : w ≡ plain w.name = λ i. record { name = w.name; primed = e i } in
    any_passes_from_place (var_eq (plain w.name)) vars n w at (subst (λ v. var_eq (plain w.name) v ≡ true) (sym is) (var_itself (plain w.name)))

-- ---- all variables

-- whether w is an x in the set, and v is its x'
abbrev pub primes : List Var → Row → Var → Var → Bool
primes vars from v w = (not w.primed && has vars from w) && var_eq v (prime w.name)

-- one variable more was gone through
pub primes_more : (vars now : List Var) (from : Row) (n : ℕ) (v : Var) → IsTable vars → Grows vars now → n < length vars
    → (list_any (primes vars from v) (take n vars) || is_prime_of from n (var_at now n) v) ≡ list_any (primes vars from v) (take (n + 1) vars)
primes_more vars now from n v table grows lt =
    let w = var_at vars n in
    let same : var_at now n ≡ w = ap (λ l. get_or l n (plain [])) grows.is ∙ get_or_append_left vars grows.more (plain []) n lt in
    let number = has_its_number vars table w n (slice_get-get_or vars n (plain []) lt) in
    let here : has_number from n ≡ has vars from w = sym (ap (λ o. option_map_or (has_number from) o from.others) number) in
    let front = list_any (primes vars from v) (take n vars) in
    ap (λ u. front || is_prime_of from n u v) same
    ∙ ap (λ b. front || ((not w.primed && b) && var_eq v (prime w.name))) here
    ∙ ap (λ b. front || b) (sym (no_more (primes vars from v w)))
    ∙ sym (ap (list_any (primes vars from v)) (take_more vars n (plain []) lt) ∙ list_any-append (primes vars from v) (take n vars) (w ∷ []))

and_first : (a b : Bool) → (a && b) ≡ true → a ≡ true
and_first true b e = refl
and_first false b e = e

and_second : (a b : Bool) → (a && b) ≡ true → b ≡ true
and_second true b e = e
and_second false b e = absurd (true≢false (sym e))

or_first : (a b : Bool) → (a || b) ≡ false → a ≡ false
or_first true b e = e
or_first false b e = refl

or_second : (a b : Bool) → (a || b) ≡ false → b ≡ false
or_second true b e = absurd (true≢false e)
or_second false b e = e

not_true : (b : Bool) → not b ≡ true → b ≡ false
not_true true e = absurd (true≢false (sym e))
not_true false e = refl

found : (p : Var → Bool) (xs : List Var) → list_any p xs ≡ true → (w : Var) × (p w ≡ true)
found p [] e = absurd (true≢false (sym e))
found p (x ∷ xs) e = by (p x) refl (found p xs)
  where
    by : (b : Bool) → p x ≡ b → (list_any p xs ≡ true → (w : Var) × (p w ≡ true)) → (w : Var) × (p w ≡ true)
    by true h rest = (x, h)
    by false h rest = rest (ap (λ b. b || list_any p xs) (sym h) ∙ e)

both_at : (p q : Var → Bool) (xs : List Var) → list_any q xs ≡ true → list_any p xs ≡ false → (w : Var) × (q w ≡ true) × (p w ≡ false)
both_at p q [] e h = absurd (true≢false (sym e))
both_at p q (x ∷ xs) e h = by (q x) refl (λ k. both_at p q xs k (or_second (p x) (list_any p xs) h))
  where
    by : (b : Bool) → q x ≡ b → (list_any q xs ≡ true → (w : Var) × (q w ≡ true) × (p w ≡ false)) → (w : Var) × (q w ≡ true) × (p w ≡ false)
    by true k rest = (x, k, or_first (p x) (list_any p xs) h)
    by false k rest = rest (ap (λ b. b || list_any q xs) (sym k) ∙ e)

module _ (vars : List Var) (from : Row) (closed : ArePlainToo vars) where
  -- without a number a variable is in the set as the flag says
  by_flag : (v : Var) → is_among vars v ≡ false → has vars from v ≡ from.others
  by_flag v e = ap (λ o. option_map_or (has_number from) o from.others) (no_number vars v e)

  no_prime : (v : Var) → list_any (primes vars from v) vars ≡ false → has vars from v ≡ and_primes (has vars from) v
  no_prime v none = by v.primed refl
    where
      off : (v.primed && has vars from (plain v.name)) ≡ false → has vars from v ≡ and_primes (has vars from) v
      off e = sym (ap (λ b. has vars from v || b) e ∙ no_more (has vars from v))

      with_plain : v.primed ≡ true → (b : Bool) → is_among vars (plain v.name) ≡ b → has vars from v ≡ and_primes (has vars from) v
      with_plain p true e =
          let w = both_at (primes vars from v) (var_eq (plain v.name)) vars e none in
          let is : plain v.name ≡ w.0 = var_same (plain v.name) w.0 w.1 in
          let own : v ≡ prime v.name = λ i. record { name = v.name; primed = p i } in
          let same : var_eq v (prime v.name) ≡ true = subst (λ u. var_eq v u ≡ true) own (var_itself v) in
          let out : primes vars from v (plain v.name) ≡ false = ap (primes vars from v) is ∙ w.2 in
          let not_in : has vars from (plain v.name) ≡ false = by_and (has vars from (plain v.name)) (var_eq v (prime v.name)) out same in
          off (ap (λ b. v.primed && b) not_in ∙ and_none v.primed)
        where
          by_and : (a b : Bool) → (a && b) ≡ false → b ≡ true → a ≡ false
          by_and true b e h = absurd (true≢false (sym h ∙ e))
          by_and false b e h = refl

          and_none : (a : Bool) → (a && false) ≡ false
          and_none true = refl
          and_none false = refl
      with_plain p false e =
          let own : v ≡ prime v.name = λ i. record { name = v.name; primed = p i } in
          let out : is_among vars v ≡ false = ap (is_among vars) own ∙ not_among (is_among vars (prime v.name)) refl in
          let like : (v.primed && has vars from (plain v.name)) ≡ has vars from v =
          ap (λ b. b && has vars from (plain v.name)) p ∙ by_flag (plain v.name) e ∙ sym (by_flag v out) in
          sym (ap (λ b. has vars from v || b) like ∙ or_self (has vars from v))
        where
          not_among : (b : Bool) → is_among vars (prime v.name) ≡ b → b ≡ false
          not_among true h = absurd (true≢false (sym (closed.plain_too v.name h) ∙ e))
          not_among false h = refl

      by : (b : Bool) → v.primed ≡ b → has vars from v ≡ and_primes (has vars from) v
      by true p = with_plain p (is_among vars (plain v.name)) refl
      by false p = off (ap (λ b. b && has vars from (plain v.name)) p)

  pub primes_all : (v : Var) → (has vars from v || list_any (primes vars from v) vars) ≡ and_primes (has vars from) v
  primes_all v = by (list_any (primes vars from v) vars) refl
    where
      by : (b : Bool) → list_any (primes vars from v) vars ≡ b → (has vars from v || list_any (primes vars from v) vars) ≡ and_primes (has vars from) v
      by true e =
          let at = found (primes vars from v) vars e in
          let w = at.0 in
          let one = and_first (not w.primed && has vars from w) (var_eq v (prime w.name)) at.1 in
          let is : v ≡ prime w.name = var_same v (prime w.name) (and_second (not w.primed && has vars from w) (var_eq v (prime w.name)) at.1) in
          let bare : w.primed ≡ false = not_true w.primed (and_first (not w.primed) (has vars from w) one) in
          let own : plain w.name ≡ w = λ i. record { name = w.name; primed = sym bare i } in
          let name : plain v.name ≡ w = ap (λ (u : Var). plain u.name) is ∙ own in
          let mark : v.primed ≡ true = ap (λ (u : Var). u.primed) is in
          let both : (v.primed && has vars from (plain v.name)) ≡ true =
          (λ i. mark i && has vars from (name i)) ∙ and_second (not w.primed) (has vars from w) one in
          ap (λ b. has vars from v || b) (e ∙ sym both)
      by false e = ap (λ b. has vars from v || b) e ∙ no_more (has vars from v) ∙ no_prime v e
