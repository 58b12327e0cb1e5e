-- Rows at their places, while their table grows.
use Rattle.std.proofs.Common.{◌≡◌, ℕ, ◌<◌, Bool, true, false, cond, ◌||◌, List, [], ◌∷◌, ◌++◌, length, Option, Result, Ok, Err, IfOk, OnErr}
use Rattle.std.proofs.Common.{refl, sym, ap, subst, ◌∙◌, arith, length-append}
use Rattle.std.proofs.lemmas.List.{get_or_append_left}
use Rattle.std.specs.List.{list_any}
use Rattle.indexmap.specs.IndexSet.{insert_key}
use Rattle.dlk_tree.specs.Statics.{none}
use Rattle.dlk_vars.specs.Rows.{Row, has_number, ByNumber}
use Rattle.dlk_vars.specs.Sets.{StandsFor}
use Rattle.dlk_shared.specs.SetTables.{row_at}
use Rattle.dlk_shared.specs.RowTables.{IsEmptyAt, KnowsEmpty, KeepsRows}

pub rows_refl : (rows : List Row) → KeepsRows rows rows
rows_refl rows = record { long = omega arith; same = λ n h. refl }

module _ (eq : Row → Row → Bool) (rows : List Row) (r : Row) where
  inserted_rows : KeepsRows rows (insert_key eq rows r)
  inserted_rows = elim (list_any (eq r) rows) as (λ b. KeepsRows rows (cond b rows (rows ++ r ∷ []))) [
    | true ↦ rows_refl rows
    | false ↦ record {
      long = omega (arith, length-append rows (r ∷ []));
      same = λ n h. get_or_append_left rows (r ∷ []) (record { words = []; others = false }) n h;
    }
  ]

  -- what an insertion that may fail leaves
  pub tried_rows : {T E : Type 0} (tried : Result T E) (new : List Row) → IfOk tried (λ _. new ≡ insert_key eq rows r) → OnErr tried (new ≡ rows)
      → KeepsRows rows new
  tried_rows (Ok x) new ok err = subst (KeepsRows rows) (sym ok) inserted_rows
  tried_rows (Err x) new ok err = subst (KeepsRows rows) (sym err) (rows_refl rows)

-- ---- the empty row

pub empty_at : (rows : List Row) (n : ℕ) (r : Row) → n < length rows → row_at rows n ≡ r → ((m : ℕ) → has_number r m ≡ false) → StandsFor r none
    → IsEmptyAt rows n
empty_at rows n r known is numbers stands = record {
  known = known;
  numbers = λ m. ap (λ q. has_number q m) is ∙ numbers m;
  vars = subst (λ q. StandsFor q none) (sym is) stands;
}

pub known_empty : {old new : List Row} {place : Option ℕ} → KeepsRows old new → KnowsEmpty old place → KnowsEmpty new place
known_empty {old} {new} k knows = record {
  at = λ n p. let e = knows.at n p in
      empty_at new n (row_at old n) (omega (arith, k.long, e.known)) (k.same n e.known) e.numbers e.vars;
}

-- ---- the union of two rows

pub turned_union : {one other r : Row} → ByNumber ◌||◌ one other r → ByNumber ◌||◌ other one r
turned_union {one} {other} joined = record {
  numbers = λ n. joined.numbers n ∙ turned (has_number one n) (has_number other n);
  others = joined.others ∙ turned one.others other.others;
}
  where
    turned : (a b : Bool) → (a || b) ≡ (b || a)
    turned true true = refl
    turned true false = refl
    turned false true = refl
    turned false false = refl

-- the same of rows that are equal
pub at_rows : (P : Row → Row → Row → Type 0) {a b c x y z : Row} → a ≡ x → b ≡ y → c ≡ z → P a b c → P x y z
at_rows P {a} {b} {c} {x} {y} {z} p q r h = subst (λ w. P x y w) r (subst (λ w. P x w c) q (subst (λ w. P w b c) p h))
