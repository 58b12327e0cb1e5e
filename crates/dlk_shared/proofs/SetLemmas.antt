-- What sets stand for while their table grows, and what is made of them.
use Rattle.std.proofs.Common.{◌≡◌, ◌↔◌, IsTrue, not, true≢false, take, get_or, Option, None, ◌+◌, ℕ, suc, ◌<◌, Bool, true, false, ◌||◌}
use Rattle.std.proofs.Common.{◌&&◌, List, [], ◌∷◌, ◌++◌, length, Some, Result, Ok, Err, IfOk, refl, sym, ap, subst, ◌∙◌, arith, rules}
use Rattle.std.proofs.lemmas.List.{append-nil, append_assoc, take_more}
use Rattle.std.proofs.lemmas.List.Quantifiers.{position-Some}
use Rattle.std.specs.Bool.{beq, Decides}
use Rattle.std.specs.Str.{bytes_eq}
use Rattle.std.specs.List.{list_any}
use Rattle.dlk_tree.specs.Tests.{var_eq}
use Rattle.dlk_tree.specs.Statics.{none, just, plain, prime, with_prime, and_primes, either, without, Sets}
use Rattle.dlk_tree.specs.declared.op.Var.{Var}
use Rattle.dlk_vars.specs.Rows.{Row, row_eq, has_number}
use Rattle.std.specs.Option.{option_map_or}
use Rattle.std.proofs.lemmas.List.Folds.{list_any-append}
use Rattle.dlk_vars.specs.Tables.{number_of, Grows}
use Rattle.dlk_vars.specs.Sets.{has, IsWithin, StandsFor, Gains, Picks}
use Rattle.dlk_vars.proofs.Members.{has_stays, within_stays}
use Rattle.std.specs.Prelude.{All, map}
use Rattle.std.proofs.Math.Bool.{and-true, or-false}
use Rattle.dlk_store.specs.declared.listing.Which.{Which}
use Rattle.dlk_store.specs.declared.listing.Which.TheVariants.{Free, Bound, Must}
use Rattle.dlk_shared.specs.declared.node.NodeSets.{NodeSets}
use Rattle.dlk_shared.specs.SetTables.{SetTable, row_at, Holds, Means, MeanSets, Keeps, Makes, MakesPrimes, IsNone, set_at, sets_at, IsSet, AreSets}
use Rattle.dlk_shared.specs.SetTables.{number_in, set_in}
use Rattle.dlk_shared.specs.RowTables.{IsEmptyAt, KeepsRows}

pub Grows-refl : (vars : List Var) → Grows vars vars
Grows-refl vars = record { more = []; is = sym (append-nil vars) }

pub Grows-trans : {a b c : List Var} → Grows a b → Grows b c → Grows a c
Grows-trans {a} p q = record { more = p.more ++ q.more; is = q.is ∙ ap (λ l. l ++ q.more) p.is ∙ append_assoc a p.more q.more }

pub keeps_refl : (t : SetTable) → Keeps t t
keeps_refl t = record { vars = Grows-refl t.vars; sets = omega arith; same = λ n h. refl }

pub keeps_trans : {a b c : SetTable} → Keeps a b → Keeps b c → Keeps a c
keeps_trans p q = record {
  vars = Grows-trans p.vars q.vars;
  sets = omega (arith, p.sets, q.sets);
  same = λ n h. q.same n (omega (arith, p.sets)) ∙ p.same n h;
}

pub holds_kept : {old new : List Var} {r : Row} {set : Var → Bool} → Grows old new → Holds old r set → Holds new r set
holds_kept {old} {new} {r} g h = record { members = λ v. has_stays old new r g h.within v ∙ h.members v; within = within_stays old new r g h.within }

pub means_kept : {old new : SetTable} {n : ℕ} {set : Var → Bool} → Keeps old new → Means old n set → Means new n set
means_kept {old} {new} {n} {set} k m = record {
  known = omega (arith, k.sets, m.known);
  holds = subst (λ r. Holds new.vars r set) (sym (k.same n m.known)) (holds_kept k.vars m.holds);
}

pub means_same : {t : SetTable} {n : ℕ} {s r : Var → Bool} → ((v : Var) → s v ≡ r v) → Means t n s → Means t n r
means_same same m = record { known = m.known; holds = record { members = λ v. m.holds.members v ∙ same v; within = m.holds.within } }

-- a set that is kept stands for what it did
pub kept_means : {E : Type 0} (r : Result ℕ E) (new : SetTable) (vars : List Var) (row : Row) (set : Var → Bool)
    → IfOk r (λ n. n < length new.sets) → IfOk r (λ n. row_at new.sets n ≡ row) → new.vars ≡ vars → Holds vars row set → IfOk r (λ n. Means new n set)
kept_means (Ok n) new vars row set known is same h = record {
  known = known;
  holds = subst (λ q. Holds new.vars q set) (sym is) (subst (λ vs. Holds vs row set) (sym same) h);
}
kept_means (Err e) new vars row set known is same h = tt

-- the same of a set with x' for each x in another
pub kept_primes : {E : Type 0} (r : Result ℕ E) (old new : SetTable) (a : ℕ) (vars : List Var) (row : Row)
    → IfOk r (λ n. n < length new.sets) → IfOk r (λ n. row_at new.sets n ≡ row) → new.vars ≡ vars
    → ((s : Var → Bool) → Means old a s → Holds vars row (and_primes s)) → IfOk r (MakesPrimes old a new)
kept_primes (Ok n) old new a vars row known is same h = record {
  means = λ s m. record {
    known = known;
    holds = subst (λ q. Holds new.vars q (and_primes s)) (sym is) (subst (λ vs. Holds vs row (and_primes s)) (sym same) (h s m));
  };
}
kept_primes (Err e) old new a vars row known is same h = tt

-- one variable
pub just_holds : (vars : List Var) (v : Var) (n : ℕ) (empty row : Row) → number_of vars v ≡ Some n → StandsFor empty none → Gains empty n row
    → Holds vars row (just v)
just_holds vars v n empty row number stands gains = record {
  members = λ w. gains.members vars v number w ∙ ap (λ b. b || just v w) (stands.members vars w);
  within = gains.within vars (position-Some (var_eq v) vars n v number).0 (stands.within vars);
}

-- what holds of the result of a call that may fail
pub mapped : {T E : Type 0} (P Q : T → Type 0) (r : Result T E) → ((t : T) → P t → Q t) → IfOk r P → IfOk r Q
mapped P Q (Ok t) f h = f t h
mapped P Q (Err e) f h = tt

-- both variables of a name
pub both_marks : (x : List ℕ) (v : Var) → either (just (plain x)) (just (prime x)) v ≡ with_prime x v
both_marks x v = by (bytes_eq v.name x) v.primed
  where
    by : (b p : Bool) → ((b && beq p false) || (b && beq p true)) ≡ b
    by true true = refl
    by true false = refl
    by false p = refl

-- ---- a set more

pub rows_keep : (old : SetTable) (vars : List Var) (rows new : List Row) → vars ≡ old.vars → rows ≡ old.sets → KeepsRows rows new
    → Keeps old (record { vars = vars; sets = new })
rows_keep old vars rows new same_vars same_sets k = record {
  vars = subst (λ vs. Grows vs vars) same_vars (Grows-refl vars);
  sets = omega (arith, k.long, ap length same_sets);
  same = λ n h. k.same n (omega (arith, h, ap length same_sets)) ∙ ap (λ l. row_at l n) same_sets;
}

-- the place of the empty set
pub empty_means : {E : Type 0} (r : Result ℕ E) (vars : List Var) (rows : List Row) → IfOk r (IsEmptyAt rows)
    → IfOk r (λ n. Means (record { vars = vars; sets = rows }) n none)
empty_means (Ok n) vars rows e = record { known = e.known; holds = record { members = e.vars.members vars; within = e.vars.within vars } }
empty_means (Err x) vars rows e = tt

-- the place of a set that is picked of two
pub picked_makes : {E : Type 0} (r : Result ℕ E) (pick : (Var → Bool) → (Var → Bool) → Var → Bool) (old : SetTable) (a b : ℕ) (vars : List Var)
    (rows new : List Row) → vars ≡ old.vars → rows ≡ old.sets → IfOk r (λ n. n < length new)
    → IfOk r (λ n. Picks pick (row_at rows a) (row_at rows b) (row_at new n)) → IfOk r (Makes pick old a b (record { vars = vars; sets = new }))
picked_makes (Ok n) pick old a b vars rows new same_vars same_sets known picks = record {
  means = λ s t m k.
      let one = row_at old.sets a in
      let other = row_at old.sets b in
      let chosen = subst (λ l. Picks pick (row_at l a) (row_at l b) (row_at new n)) same_sets picks in
      let p : has vars one ≡ s = λ i v. ((λ j. has (same_vars j) one v) ∙ m.holds.members v) i in
      let q : has vars other ≡ t = λ i v. ((λ j. has (same_vars j) other v) ∙ k.holds.members v) i in
      record {
        known = known;
        holds = record {
          members = λ v. chosen.members vars v ∙ (λ i. pick (p i) (q i) v);
          within = chosen.within vars (subst (λ vs. IsWithin vs one) (sym same_vars) m.holds.within)
              (subst (λ vs. IsWithin vs other) (sym same_vars) k.holds.within);
        };
      };
}
picked_makes (Err x) pick old a b vars rows new same_vars same_sets known picks = tt

-- ---- what numbers stand for, whatever it is

pub set_itself : {t : SetTable} {n : ℕ} → IsSet t n → Means t n (set_at t n)
set_itself h = record { known = h.known; holds = record { members = λ v. refl; within = h.within } }

pub means_set : {t : SetTable} {n : ℕ} {set : Var → Bool} → Means t n set → IsSet t n
means_set m = record { known = m.known; within = m.holds.within }

pub means_is : {t : SetTable} {n : ℕ} {set : Var → Bool} → Means t n set → set_at t n ≡ set
means_is m = λ i v. m.holds.members v i

pub is_set_kept : {old new : SetTable} {n : ℕ} → Keeps old new → IsSet old n → IsSet new n
is_set_kept k h = means_set (means_kept k (set_itself h))

pub set_at_kept : {old new : SetTable} {n : ℕ} → Keeps old new → IsSet old n → set_at new n ≡ set_at old n
set_at_kept k h = means_is (means_kept k (set_itself h))

pub are_sets_kept : {old new : SetTable} {n : NodeSets} → Keeps old new → AreSets old n → AreSets new n
are_sets_kept k h = record { free = is_set_kept k h.free; bound = is_set_kept k h.bound; must = is_set_kept k h.must }

pub sets_at_kept : {old new : SetTable} {n : NodeSets} → Keeps old new → AreSets old n → sets_at new n ≡ sets_at old n
sets_at_kept k h =
    let free = set_at_kept k h.free in
    let bound = set_at_kept k h.bound in
    let must = set_at_kept k h.must in
    λ i. record { free = free i; bound = bound i; must = must i }

pub all_sets_kept : {old new : SetTable} → Keeps old new → (ns : List NodeSets) → All (AreSets old) ns → All (AreSets new) ns
all_sets_kept k ns all = λ i d h. are_sets_kept k (all i d h)

pub kids_sets_kept : {old new : SetTable} → Keeps old new → (ns : List NodeSets) → All (AreSets old) ns → map (sets_at new) ns ≡ map (sets_at old) ns
kids_sets_kept k [] all = refl
kids_sets_kept k (n ∷ ns) all =
    let first = sets_at_kept k (all 0 n (omega arith)) in
    let rest = kids_sets_kept k ns (λ i d h. all (suc i) d (omega arith)) in
    λ i. first i ∷ rest i

-- one of the three
pub set_in_at : (t : SetTable) (which : Which) (n : NodeSets) → set_at t (number_in which n) ≡ set_in which (sets_at t n)
set_in_at t Free n = refl
set_in_at t Bound n = refl
set_in_at t Must n = refl

pub is_set_in : (t : SetTable) (which : Which) (n : NodeSets) → AreSets t n → IsSet t (number_in which n)
is_set_in t Free n h = h.free
is_set_in t Bound n h = h.bound
is_set_in t Must n h = h.must

-- ---- the three sets of a node

pub mean_sets_kept : {old new : SetTable} {n : NodeSets} {s : Sets} → Keeps old new → MeanSets old n s → MeanSets new n s
mean_sets_kept k m = record { free = means_kept k m.free; bound = means_kept k m.bound; must = means_kept k m.must }

pub mean_are_sets : {t : SetTable} {n : NodeSets} {s : Sets} → MeanSets t n s → AreSets t n
mean_are_sets m = record { free = means_set m.free; bound = means_set m.bound; must = means_set m.must }

pub mean_sets_is : {t : SetTable} {n : NodeSets} {s : Sets} → MeanSets t n s → sets_at t n ≡ s
mean_sets_is m =
    let free = means_is m.free in
    let bound = means_is m.bound in
    let must = means_is m.must in
    λ i. record { free = free i; bound = bound i; must = must i }

-- ---- an empty set

pub no_number : (r : Row) (answer : Bool) → IsTrue (not answer) ↔ ((m : ℕ) × IsTrue (has_number r m)) → IsTrue answer → (m : ℕ) → has_number r m ≡ false
no_number r answer some told m = by (has_number r m) refl
  where
    by : (b : Bool) → has_number r m ≡ b → b ≡ false
    by true e = absurd (true≢false (sym (some.1 (m, e)) ∙ ap not told))
    by false e = refl

module _ (t : SetTable) (n : ℕ) (answer : Bool) (some : IsTrue (not answer) ↔ ((m : ℕ) × IsTrue (has_number (row_at t.sets n) m))) (told : IsTrue answer) where
  no_member : {set : Var → Bool} → Means t n set → (o : Option ℕ) → option_map_or (has_number (row_at t.sets n)) o (row_at t.sets n).others ≡ false
  no_member m (Some k) = no_number (row_at t.sets n) answer some told k
  no_member m None = sym (m.holds.within (length t.vars) (omega arith)) ∙ no_number (row_at t.sets n) answer some told (length t.vars)

  pub none_in : IsNone t n
  none_in = record { none = λ set m v. sym (m.holds.members v) ∙ no_member m (number_of t.vars v) }

pub without_none : {t : SetTable} {a b : ℕ} → IsNone t b → Makes without t a b t a
without_none empty = record { means = λ s r m k. means_same (λ v. sym (ap (λ x. s v && not x) (empty.none r k v) ∙ and-true (s v))) m }

-- ---- one item or kid more

pub any_more : {A : Type 0} (p : A → Bool) (xs : List A) (k : ℕ) (d : A) → k < length xs →
    list_any p (take (k + 1) xs) ≡ (list_any p (take k xs) || p (get_or xs k d))
any_more p xs k d lt = ap (list_any p) (take_more xs k d lt) ∙ list_any-append p (take k xs) (get_or xs k d ∷ [])
    ∙ ap (λ b. list_any p (take k xs) || b) (or-false (p (get_or xs k d)))

-- rows are told apart
pub row_decides : (a b : Row) → Decides (row_eq a b) (a ≡ b)
row_decides a b = search rules
