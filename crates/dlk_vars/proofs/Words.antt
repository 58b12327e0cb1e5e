-- What the words of a row say of its numbers.
use Rattle.std.proofs.Common.{◌≡◌, ℕ, ◌+◌, ◌*◌, ◌-◌, ◌/◌, ◌%◌, ◌^◌, ◌<◌, ◌≤◌, ◌≢◌, ◌==◌, Bool, true, false, cond, ◌||◌, ◌&&◌, not, List, [], length}
use Rattle.std.proofs.Common.{get_or, bit_or, bit_and, refl, sym, ap, subst, ◌∙◌, true≢false, inl, inr, ◌⊎◌, arith, eqb-true, eq-eqb, w64, IsTrue}
use Rattle.std.proofs.Common.{◌↔◌}
use Rattle.std.specs.Int.{bit_at, bit_not, trailing_zeros}
use Rattle.std.proofs.lemmas.Bool.{cases_lt, ne_eqb}
use Rattle.std.proofs.Math.ListN.{get_or-eq_default}
use Rattle.std.proofs.lemmas.Nat.Bits.{bit_at_ones, bit_at_set_same, bit_at_set_other, bit_at-zero, bit_at-trailing_zeros}
use Rattle.std.specs.Bool.{beq}
use Rattle.std.specs.Cmp.{booleans_Decides}
use Rattle.std.specs.Cmp.Lexicographic.{pointwise}
use Rattle.std.specs.Prelude.{nat_eq}
use Rattle.std.proofs.lemmas.Bool.{and_parts}
use Rattle.std.proofs.lemmas.Bool.Decides.{Decides-eqb}
use Rattle.std.proofs.lemmas.Slice.Eq.{slice_eq-Decides}
use Rattle.std.proofs.Math.Bool.{or-true, or-false}
use Rattle.dlk_vars.specs.Rows.{Row, word, has_number, ByNumber, row_eq}
use Rattle.dlk_vars.proofs.Bits.{or_bit, and_bit, and_not_bit}

-- the word past the end of a row with this flag
abbrev pub fill : Bool → ℕ
fill b = cond b (2 ^ 64 - 1) 0

all_ones : (i : ℕ) → i < 64 → (bit_at (2 ^ 64 - 1) i == 1) ≡ true
all_ones i h = eq-eqb (bit_at (2 ^ 64 - 1) i) 1 (bit_at_ones 64 i h)

fill_bit : (b : Bool) (i : ℕ) → i < 64 → (bit_at (fill b) i == 1) ≡ b
fill_bit true i h = all_ones i h
fill_bit false i h = ap (λ m. m == 1) (bit_at-zero i)

-- the k-th word is the fill past the end
pub past_word : (r : Row) (k : ℕ) → length r.words ≤ k → word r k ≡ fill r.others
past_word r k h = get_or-eq_default r.words (fill r.others) {n = k} (omega (arith, h))

pub past_number : (r : Row) (n : ℕ) → length r.words ≤ n / 64 → has_number r n ≡ r.others
past_number r n h = ap (λ w. bit_at w (n % 64) == 1) (past_word r (n / 64) h) ∙ fill_bit r.others (n % 64) (omega arith)

-- a row without words
pub no_words : (r : Row) → r.words ≡ [] → (n : ℕ) → has_number r n ≡ r.others
no_words r e n = past_number r n (omega (arith, ap length e))

-- words that are joined
pub record Joined (f : ℕ → ℕ → ℕ) (one other : Row) (words : List ℕ) (k : ℕ) : Type 0 where
  pub count : length words ≡ k
  pub made : (j d : ℕ) → j < k → get_or words j d ≡ f (word one j) (word other j)

module _ (one other r : Row) (k : ℕ) (left : length one.words ≤ k) (right : length other.words ≤ k) where
  module _ (f : ℕ → ℕ → ℕ) (made : Joined f one other r.words k) (fills : fill r.others ≡ f (fill one.others) (fill other.others)) where
    joined_word : (j : ℕ) → word r j ≡ f (word one j) (word other j)
    joined_word j = by (cases_lt j k)
      where
        by : (j < k) ⊎ (k ≤ j) → word r j ≡ f (word one j) (word other j)
        by (inl h) = made.made j (fill r.others) h
        by (inr h) =
            let p = past_word one j (omega (arith, left, h)) in
            let q = past_word other j (omega (arith, right, h)) in
            past_word r j (omega (arith, made.count, h)) ∙ fills ∙ sym (λ i. f (p i) (q i))

    joined_number : (test : Bool → Bool → Bool)
        → ((n : ℕ) → (bit_at (f (word one (n / 64)) (word other (n / 64))) (n % 64) == 1) ≡ test (has_number one n) (has_number other n))
        → r.others ≡ test one.others other.others → ByNumber test one other r
    joined_number test bits flag = record {
      numbers = λ n. ap (λ w. bit_at w (n % 64) == 1) (joined_word (n / 64)) ∙ bits n;
      others = flag;
    }

  pub union_numbers : Joined bit_or one other r.words k → r.others ≡ (one.others || other.others) → ByNumber ◌||◌ one other r
  union_numbers made flag =
      joined_number bit_or made (ap fill flag ∙ fills one.others other.others) ◌||◌ (λ n. or_bit (word one (n / 64)) (word other (n / 64)) (n % 64)) flag
    where
      fills : (a b : Bool) → fill (a || b) ≡ bit_or (fill a) (fill b)
      fills true true = refl
      fills true false = refl
      fills false true = refl
      fills false false = refl

  pub meet_numbers : Joined bit_and one other r.words k → r.others ≡ (one.others && other.others) → ByNumber ◌&&◌ one other r
  meet_numbers made flag =
      joined_number bit_and made (ap fill flag ∙ fills one.others other.others) ◌&&◌ (λ n. and_bit (word one (n / 64)) (word other (n / 64)) (n % 64)) flag
    where
      fills : (a b : Bool) → fill (a && b) ≡ bit_and (fill a) (fill b)
      fills true true = refl
      fills true false = refl
      fills false true = refl
      fills false false = refl

  -- the other row's words are words
  pub minus_numbers : ((j : ℕ) → j < k → word other j < 2 ^ 64) → Joined (λ x y. bit_and x (bit_not w64 y)) one other r.words k
      → r.others ≡ (one.others && not other.others) → ByNumber (λ a b. a && not b) one other r
  minus_numbers small made flag =
      joined_number (λ x y. bit_and x (bit_not w64 y)) made (ap fill flag ∙ fills one.others other.others) (λ a b. a && not b)
      (λ n. and_not_bit (word one (n / 64)) (word other (n / 64)) (n % 64) (every (n / 64)) (omega arith)) flag
    where
      fills : (a b : Bool) → fill (a && not b) ≡ bit_and (fill a) (bit_not w64 (fill b))
      fills true true = refl
      fills true false = refl
      fills false true = refl
      fills false false = refl

      fill_small : (b : Bool) → fill b < 2 ^ 64
      fill_small true = omega arith
      fill_small false = omega arith

      every : (j : ℕ) → word other j < 2 ^ 64
      every j = by (cases_lt j k)
        where
          by : (j < k) ⊎ (k ≤ j) → word other j < 2 ^ 64
          by (inl h) = small j h
          by (inr h) = subst (λ w. w < 2 ^ 64) (sym (past_word other j (omega (arith, right, h)))) (fill_small other.others)

-- ---- two sets that meet

-- some number is in both
abbrev pub SomeShared : Row → Row → Type 0
SomeShared one other = (n : ℕ) × IsTrue (has_number one n && has_number other n)

common : (one other : Row) (n : ℕ) → (has_number one n && has_number other n) ≡ true → bit_and (word one (n / 64)) (word other (n / 64)) ≢ 0
common one other n h e =
    let i = n % 64 in
    let z = ap (λ w. bit_at w i == 1) e ∙ ap (λ m. m == 1) (bit_at-zero i) in
    true≢false (sym h ∙ sym (and_bit (word one (n / 64)) (word other (n / 64)) i) ∙ z)

-- where no word so far has a common bit, they meet where both flags are up
pub apart_meets : (one other : Row) (k : ℕ) → length one.words ≤ k → length other.words ≤ k → ((j : ℕ) → j < k → bit_and (word one j) (word other j) ≡ 0)
    → IsTrue (one.others && other.others) ↔ SomeShared one other
apart_meets one other k left right none = (
  λ h. (64 * k, (λ i. past (64 * k) (omega arith) i) ∙ h),
  λ w. by w (cases_lt (w.0 / 64) k),
)
  where
    past : (n : ℕ) → k ≤ n / 64 → (has_number one n && has_number other n) ≡ (one.others && other.others)
    past n l = let p = past_number one n (omega (arith, left, l)) in let q = past_number other n (omega (arith, right, l)) in λ i. p i && q i

    by : (w : (n : ℕ) × IsTrue (has_number one n && has_number other n)) → (w.0 / 64 < k) ⊎ (k ≤ w.0 / 64) → IsTrue (one.others && other.others)
    by w (inl l) = absurd (common one other w.0 w.1 (none (w.0 / 64) l))
    by w (inr l) = sym (past w.0 l) ∙ w.1

-- a bit of a word that isn't 0
pub some_bit : (w : ℕ) → w < 2 ^ 64 → w ≢ 0 → (i : ℕ) × (i < 64) × ((bit_at w i == 1) ≡ true)
some_bit w small some =
    let z = bit_at-trailing_zeros w64 w (omega (arith, some)) small in
    (trailing_zeros w64 w, z.0, eq-eqb (bit_at w (trailing_zeros w64 w)) 1 z.1)

-- the number of a bit of a word
pub number_at : (r : Row) (k i : ℕ) → i < 64 → has_number r (64 * k + i) ≡ (bit_at (word r k) i == 1)
number_at r k i h =
    let high : (64 * k + i) / 64 ≡ k = omega (arith, h) in
    let low : (64 * k + i) % 64 ≡ i = omega (arith, h) in
    λ t. bit_at (word r (high t)) (low t) == 1

-- words with a common bit
pub words_meet : (one other : Row) (k : ℕ) → bit_and (word one k) (word other k) < 2 ^ 64 → bit_and (word one k) (word other k) ≢ 0 → SomeShared one other
words_meet one other k small some =
    let b = some_bit (bit_and (word one k) (word other k)) small some in
    let p = number_at one k b.0 b.1 in
    let q = number_at other k b.0 b.1 in
    (64 * k + b.0, (λ t. p t && q t) ∙ sym (and_bit (word one k) (word other k) b.0) ∙ b.2)

-- ---- a set within another

-- some number of the other is not in the one
abbrev pub SomeLeft : Row → Row → Type 0
SomeLeft one other = (n : ℕ) × IsTrue (has_number other n && not (has_number one n))

-- the bits of the other's word that aren't in the one's
abbrev pub left_over : Row → Row → ℕ → ℕ
left_over one other k = bit_and (word other k) (bit_not w64 (word one k))

-- where no word so far has such a bit, some number is left where the flags say so
pub none_left : (one other : Row) (k : ℕ) → length one.words ≤ k → length other.words ≤ k → ((j : ℕ) → j < k → word one j < 2 ^ 64)
    → ((j : ℕ) → j < k → left_over one other j ≡ 0) → IsTrue (other.others && not one.others) ↔ SomeLeft one other
none_left one other k left right small none = (
  λ h. (64 * k, past (64 * k) (omega arith) ∙ h),
  λ w. by w (cases_lt (w.0 / 64) k),
)
  where
    past : (n : ℕ) → k ≤ n / 64 → (has_number other n && not (has_number one n)) ≡ (other.others && not one.others)
    past n l = let p = past_number other n (omega (arith, right, l)) in let q = past_number one n (omega (arith, left, l)) in λ i. p i && not (q i)

    by : (w : (n : ℕ) × IsTrue (has_number other n && not (has_number one n))) → (w.0 / 64 < k) ⊎ (k ≤ w.0 / 64) → IsTrue (other.others && not one.others)
    by w (inl l) =
        let i = w.0 % 64 in
        let bit = and_not_bit (word other (w.0 / 64)) (word one (w.0 / 64)) i (small (w.0 / 64) l) (omega arith) in
        let zero = ap (λ v. bit_at v i == 1) (none (w.0 / 64) l) ∙ ap (λ m. m == 1) (bit_at-zero i) in
        absurd (true≢false (sym w.1 ∙ sym bit ∙ zero))
    by w (inr l) = sym (past w.0 l) ∙ w.1

-- a word with such a bit
pub word_left : (one other : Row) (k : ℕ) → word one k < 2 ^ 64 → left_over one other k < 2 ^ 64 → left_over one other k ≢ 0 → SomeLeft one other
word_left one other k small less some =
    let b = some_bit (left_over one other k) less some in
    let p = number_at other k b.0 b.1 in
    let q = number_at one k b.0 b.1 in
    (64 * k + b.0, (λ t. p t && not (q t)) ∙ sym (and_not_bit (word other k) (word one k) b.0 small b.1) ∙ b.2)

-- where none is left, the one is the union
pub within_union : (answer : Bool) (one other : Row) → IsTrue (not answer) ↔ SomeLeft one other → IsTrue answer → ByNumber ◌||◌ one other one
within_union answer one other told h = record { numbers = λ n. joins (has_number one n) (has_number other n) (none n); others = flags }
  where
    none : (n : ℕ) → (has_number other n && not (has_number one n)) ≡ false
    none n = by (has_number other n && not (has_number one n)) refl
      where
        by : (b : Bool) → (has_number other n && not (has_number one n)) ≡ b → b ≡ false
        by true e = absurd (true≢false (sym (told.1 (n, e)) ∙ ap not h))
        by false e = refl

    joins : (a b : Bool) → (b && not a) ≡ false → a ≡ (a || b)
    joins true b e = refl
    joins false true e = absurd (true≢false e)
    joins false false e = refl

    flags : one.others ≡ (one.others || other.others)
    flags =
        let n = 64 * (length one.words + length other.words) in
        let p = past_number one n (omega arith) in
        let q = past_number other n (omega arith) in
        joins one.others other.others (sym (λ i. q i && not (p i)) ∙ none n)

-- a set that meets itself
pub meets_itself : (answer : Bool) (r : Row) → IsTrue answer ↔ SomeShared r r → IsTrue (not (not answer)) ↔ ((n : ℕ) × IsTrue (has_number r n))
meets_itself answer r h = (
  λ t. let w = h.0 (sym (not_not answer) ∙ t) in (w.0, sym (twice (has_number r w.0)) ∙ w.1),
  λ w. not_not answer ∙ h.1 (w.0, twice (has_number r w.0) ∙ w.1),
)
  where
    not_not : (b : Bool) → not (not b) ≡ b
    not_not true = refl
    not_not false = refl

    twice : (b : Bool) → (b && b) ≡ b
    twice true = refl
    twice false = refl

-- ---- a set with one number more

module _ (s r : Row) (n k : ℕ) (left : length s.words ≤ k) (within : n / 64 < k) (long : length r.words ≡ k) (flag : r.others ≡ s.others)
    (made : (j d : ℕ) → j < k → get_or r.words j d ≡ cond (j == n / 64) (bit_or (word s j) (1 * 2 ^ (n % 64) % 2 ^ 64)) (word s j)) where
  with_word : (j : ℕ) → word r j ≡ cond (j == n / 64) (bit_or (word s j) (1 * 2 ^ (n % 64) % 2 ^ 64)) (word s j)
  with_word j = by (cases_lt j k)
    where
      by : (j < k) ⊎ (k ≤ j) → word r j ≡ cond (j == n / 64) (bit_or (word s j) (1 * 2 ^ (n % 64) % 2 ^ 64)) (word s j)
      by (inl l) = made j (fill r.others) l
      by (inr l) =
          let ne : (j == n / 64) ≡ false = ne_eqb j (n / 64) (λ e. omega (arith, e, within, l)) in
          past_word r j (omega (arith, long, l)) ∙ ap fill flag ∙ sym (past_word s j (omega (arith, left, l)))
          ∙ sym (ap (λ c. cond c (bit_or (word s j) (1 * 2 ^ (n % 64) % 2 ^ 64)) (word s j)) ne)

  pub with_numbers : (m : ℕ) → has_number r m ≡ (has_number s m || m == n)
  with_numbers m = ap (λ w. bit_at w (m % 64) == 1) (with_word (m / 64)) ∙ by (m / 64 == n / 64) refl (m == n) refl
    where
      by : (c : Bool) → (m / 64 == n / 64) ≡ c → (e : Bool) → (m == n) ≡ e
          → (bit_at (cond c (bit_or (word s (m / 64)) (1 * 2 ^ (n % 64) % 2 ^ 64)) (word s (m / 64))) (m % 64) == 1) ≡ (has_number s m || e)
      by true p true q =
          let low : m % 64 ≡ n % 64 = ap (λ t. t % 64) (eqb-true m n q) in
          ap (λ t. bit_at (bit_or (word s (m / 64)) (1 * 2 ^ (n % 64) % 2 ^ 64)) t == 1) low
          ∙ eq-eqb _ 1 (bit_at_set_same w64 (word s (m / 64)) (n % 64) (omega arith)) ∙ sym (or-true (has_number s m))
      by true p false q =
          let other : m % 64 ≢ n % 64 = λ e. absurd (true≢false (sym (eq-eqb m n (omega (arith, e, eqb-true (m / 64) (n / 64) p))) ∙ q)) in
          ap (λ t. t == 1) (bit_at_set_other w64 (word s (m / 64)) (n % 64) (omega arith) (m % 64) other) ∙ sym (or-false (has_number s m))
      by false p true q = absurd (true≢false (sym (eq-eqb (m / 64) (n / 64) (ap (λ t. t / 64) (eqb-true m n q))) ∙ p))
      by false p false q = sym (or-false (has_number s m))

-- rows that the test finds the same
pub row_same : (a b : Row) → row_eq a b ≡ true → a ≡ b
row_same a b e =
    let p = and_parts (pointwise nat_eq a.words b.words) (beq a.others b.others) e in
    let words = (slice_eq-Decides Decides-eqb a.words b.words (pointwise nat_eq a.words b.words) refl).0 p.0 in
    let others = (booleans_Decides a.others b.others).0 p.1 in
    λ i. record { words = words i; others = others i }
