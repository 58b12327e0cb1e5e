-- Four words of two rows at once.
use Rattle.std.proofs.Common.{◌≡◌, ℕ, ◌+◌, ◌<◌, ◌≤◌, ◌^◌, ◌≢◌, max, List, bit_or, bit_and, sym, ap, ◌∙◌, inl, inr, ◌⊎◌, arith}
use Rattle.std.specs.Prelude.{All}
use Rattle.std.specs.Int.{bit_at}
use Rattle.std.specs.Int.Bits.{and_lt}
use Rattle.std.specs.Simd.Lanes.{zip2, fold_l}
use Rattle.std.proofs.lemmas.Bool.{cases_eq}
use Rattle.std.proofs.lemmas.Nat.Bits.{bit_at_or, bit_at-zero, same_from_bits}
use Rattle.dlk_vars.specs.Rows.{Row, word, four_words}
use Rattle.dlk_vars.proofs.Words.{words_meet, SomeShared}

-- two numbers whose or is 0
or_zero : (x y : ℕ) → bit_or x y ≡ 0 → (x ≡ 0) × (y ≡ 0)
or_zero x y e = (same_from_bits x 0 (λ i. low i), same_from_bits y 0 (λ i. high i))
  where
    none : (i : ℕ) → max (bit_at x i) (bit_at y i) ≡ 0
    none i = sym (bit_at_or x y i) ∙ ap (λ w. bit_at w i) e ∙ bit_at-zero i

    low : (i : ℕ) → bit_at x i ≡ bit_at 0 i
    low i = omega (arith, none i, bit_at-zero i)

    high : (i : ℕ) → bit_at y i ≡ bit_at 0 i
    high i = omega (arith, none i, bit_at-zero i)

module _ (a b c d : ℕ) where
  -- the or of four words
  abbrev pub four_or : ℕ
  four_or = bit_or (bit_or (bit_or (bit_or 0 a) b) c) d

  pub all_zero : four_or ≡ 0 → (a ≡ 0) × (b ≡ 0) × (c ≡ 0) × (d ≡ 0)
  all_zero e =
      let p = or_zero (bit_or (bit_or (bit_or 0 a) b) c) d e in
      let q = or_zero (bit_or (bit_or 0 a) b) c p.0 in
      let r = or_zero (bit_or 0 a) b q.0 in
      ((or_zero 0 a r.0).1, r.1, q.1, p.1)

  pub one_not_zero : four_or ≢ 0 → (a ≢ 0) ⊎ ((b ≢ 0) ⊎ ((c ≢ 0) ⊎ (d ≢ 0)))
  one_not_zero ne = first (cases_eq a 0)
    where
      fourth : a ≡ 0 → b ≡ 0 → c ≡ 0 → (d ≡ 0) ⊎ (d ≢ 0) → (a ≢ 0) ⊎ ((b ≢ 0) ⊎ ((c ≢ 0) ⊎ (d ≢ 0)))
      fourth p q r (inl s) = absurd (ne (λ i. bit_or (bit_or (bit_or (bit_or 0 (p i)) (q i)) (r i)) (s i)))
      fourth p q r (inr s) = inr (inr (inr s))

      third : a ≡ 0 → b ≡ 0 → (c ≡ 0) ⊎ (c ≢ 0) → (a ≢ 0) ⊎ ((b ≢ 0) ⊎ ((c ≢ 0) ⊎ (d ≢ 0)))
      third p q (inl r) = fourth p q r (cases_eq d 0)
      third p q (inr r) = inr (inr (inl r))

      second : a ≡ 0 → (b ≡ 0) ⊎ (b ≢ 0) → (a ≢ 0) ⊎ ((b ≢ 0) ⊎ ((c ≢ 0) ⊎ (d ≢ 0)))
      second p (inl q) = third p q (cases_eq c 0)
      second p (inr q) = inr (inl q)

      first : (a ≡ 0) ⊎ (a ≢ 0) → (a ≢ 0) ⊎ ((b ≢ 0) ⊎ ((c ≢ 0) ⊎ (d ≢ 0)))
      first (inl p) = second p (cases_eq b 0)
      first (inr p) = inl p

-- one of the four places from `at` on
four_places : (at j : ℕ) → at ≤ j → j < at + 4 → (j ≡ at) ⊎ ((j ≡ at + 1) ⊎ ((j ≡ at + 2) ⊎ (j ≡ at + 3)))
four_places at j low high = first (cases_eq j at)
  where
    third : j ≢ at → j ≢ at + 1 → (j ≡ at + 2) ⊎ (j ≢ at + 2) → (j ≡ at) ⊎ ((j ≡ at + 1) ⊎ ((j ≡ at + 2) ⊎ (j ≡ at + 3)))
    third p q (inl r) = inr (inr (inl r))
    third p q (inr r) = inr (inr (inr (omega arith)))

    second : j ≢ at → (j ≡ at + 1) ⊎ (j ≢ at + 1) → (j ≡ at) ⊎ ((j ≡ at + 1) ⊎ ((j ≡ at + 2) ⊎ (j ≡ at + 3)))
    second p (inl q) = inr (inl q)
    second p (inr q) = third p q (cases_eq j (at + 2))

    first : (j ≡ at) ⊎ (j ≢ at) → (j ≡ at) ⊎ ((j ≡ at + 1) ⊎ ((j ≡ at + 2) ⊎ (j ≡ at + 3)))
    first (inl p) = inl p
    first (inr p) = second p (cases_eq j (at + 1))

-- the or of the four words' common bits
abbrev pub lanes : List ℕ → List ℕ → ℕ
lanes xs ys = fold_l bit_or 0 (zip2 bit_and xs ys)

module _ (one other : Row) (at : ℕ) where
  pub lanes_apart : lanes (four_words one at) (four_words other at) ≡ 0 → (j : ℕ) → at ≤ j → j < at + 4 → bit_and (word one j) (word other j) ≡ 0
  lanes_apart e j low high = by (four_places at j low high)
    where
      zeros : (bit_and (word one at) (word other at) ≡ 0) × (bit_and (word one (at + 1)) (word other (at + 1)) ≡ 0)
          × (bit_and (word one (at + 2)) (word other (at + 2)) ≡ 0) × (bit_and (word one (at + 3)) (word other (at + 3)) ≡ 0)
      zeros = all_zero (bit_and (word one at) (word other at)) (bit_and (word one (at + 1)) (word other (at + 1)))
          (bit_and (word one (at + 2)) (word other (at + 2))) (bit_and (word one (at + 3)) (word other (at + 3))) e

      by : (j ≡ at) ⊎ ((j ≡ at + 1) ⊎ ((j ≡ at + 2) ⊎ (j ≡ at + 3))) → bit_and (word one j) (word other j) ≡ 0
      by (inl p) = ap (λ k. bit_and (word one k) (word other k)) p ∙ zeros.0
      by (inr (inl p)) = ap (λ k. bit_and (word one k) (word other k)) p ∙ zeros.1
      by (inr (inr (inl p))) = ap (λ k. bit_and (word one k) (word other k)) p ∙ zeros.2
      by (inr (inr (inr p))) = ap (λ k. bit_and (word one k) (word other k)) p ∙ zeros.3

  pub lanes_meet : All (λ w. w < 2 ^ 64) (four_words one at) → All (λ w. w < 2 ^ 64) (four_words other at) → lanes (four_words one at) (four_words other at) ≢ 0
      → SomeShared one other
  lanes_meet left right ne =
      by (one_not_zero (bit_and (word one at) (word other at)) (bit_and (word one (at + 1)) (word other (at + 1)))
      (bit_and (word one (at + 2)) (word other (at + 2))) (bit_and (word one (at + 3)) (word other (at + 3))) ne)
    where
      found : (j : ℕ) → word one j < 2 ^ 64 → word other j < 2 ^ 64 → bit_and (word one j) (word other j) ≢ 0 → SomeShared one other
      found j p q some = words_meet one other j (and_lt 64 (word one j) (word other j) p q) some

      by : (bit_and (word one at) (word other at) ≢ 0) ⊎ ((bit_and (word one (at + 1)) (word other (at + 1)) ≢ 0)
          ⊎ ((bit_and (word one (at + 2)) (word other (at + 2)) ≢ 0) ⊎ (bit_and (word one (at + 3)) (word other (at + 3)) ≢ 0))) → SomeShared one other
      by (inl p) = found at (left 0 0 (omega arith)) (right 0 0 (omega arith)) p
      by (inr (inl p)) = found (at + 1) (left 1 0 (omega arith)) (right 1 0 (omega arith)) p
      by (inr (inr (inl p))) = found (at + 2) (left 2 0 (omega arith)) (right 2 0 (omega arith)) p
      by (inr (inr (inr p))) = found (at + 3) (left 3 0 (omega arith)) (right 3 0 (omega arith)) p
