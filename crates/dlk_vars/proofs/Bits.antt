-- A bit of two words joined is the bits joined.
use Rattle.std.proofs.Common.{◌≡◌, ℕ, ◌-◌, ◌<◌, ◌^◌, ◌==◌, Bool, true, false, ◌||◌, ◌&&◌, not, min, max, bit_or, bit_and, refl, sym, ap, ◌∙◌, inl}
use Rattle.std.proofs.Common.{inr, ◌⊎◌, arith, w64}
use Rattle.std.specs.Int.{bit_at, bit_not}
use Rattle.std.proofs.lemmas.Bool.{cases_order}
use Rattle.std.proofs.lemmas.Nat.Bits.{bit_at_or, bit_at_and, bit_at_not, bit_at-lt}

bit : (x : ℕ) → x < 2 → (x ≡ 0) ⊎ (x ≡ 1)
bit x h = by (cases_order x 0)
  where
    by : (x ≡ 0) ⊎ ((x < 0) ⊎ (0 < x)) → (x ≡ 0) ⊎ (x ≡ 1)
    by (inl e) = inl e
    by (inr (inl l)) = absurd (omega arith)
    by (inr (inr l)) = inr (omega arith)

-- the same of two bits
module _ (f : ℕ → ℕ → ℕ) (test : Bool → Bool → Bool) (none : (f 0 0 == 1) ≡ test false false) (right : (f 0 1 == 1) ≡ test false true)
    (left : (f 1 0 == 1) ≡ test true false) (both : (f 1 1 == 1) ≡ test true true) where
  bits_joined : (x y : ℕ) → x < 2 → y < 2 → (f x y == 1) ≡ test (x == 1) (y == 1)
  bits_joined x y h k = by (bit x h) (bit y k)
    where
      by : (x ≡ 0) ⊎ (x ≡ 1) → (y ≡ 0) ⊎ (y ≡ 1) → (f x y == 1) ≡ test (x == 1) (y == 1)
      by (inl p) (inl q) = (λ i. f (p i) (q i) == 1) ∙ none ∙ sym (λ i. test (p i == 1) (q i == 1))
      by (inl p) (inr q) = (λ i. f (p i) (q i) == 1) ∙ right ∙ sym (λ i. test (p i == 1) (q i == 1))
      by (inr p) (inl q) = (λ i. f (p i) (q i) == 1) ∙ left ∙ sym (λ i. test (p i == 1) (q i == 1))
      by (inr p) (inr q) = (λ i. f (p i) (q i) == 1) ∙ both ∙ sym (λ i. test (p i == 1) (q i == 1))

pub or_bit : (x y i : ℕ) → (bit_at (bit_or x y) i == 1) ≡ ((bit_at x i == 1) || (bit_at y i == 1))
or_bit x y i =
    ap (λ m. m == 1) (bit_at_or x y i)
    ∙ bits_joined max ◌||◌ refl refl refl refl (bit_at x i) (bit_at y i) (bit_at-lt x i) (bit_at-lt y i)

pub and_bit : (x y i : ℕ) → (bit_at (bit_and x y) i == 1) ≡ ((bit_at x i == 1) && (bit_at y i == 1))
and_bit x y i =
    ap (λ m. m == 1) (bit_at_and x y i)
    ∙ bits_joined min ◌&&◌ refl refl refl refl (bit_at x i) (bit_at y i) (bit_at-lt x i) (bit_at-lt y i)

pub and_not_bit : (x y i : ℕ) → y < 2 ^ 64 → i < 64 → (bit_at (bit_and x (bit_not w64 y)) i == 1) ≡ ((bit_at x i == 1) && not (bit_at y i == 1))
and_not_bit x y i small within =
    ap (λ m. m == 1) (bit_at_and x (bit_not w64 y) i ∙ ap (min (bit_at x i)) (bit_at_not w64 y i small within))
    ∙ bits_joined (λ a b. min a (1 - b)) (λ a b. a && not b) refl refl refl refl (bit_at x i) (bit_at y i) (bit_at-lt x i) (bit_at-lt y i)
