-- Argument dots as bits.
use Rattle.std.proofs.Common.{◌≡◌, ◌≢◌, ℕ, zero, suc, ◌<◌, ◌^◌, ◌==◌, ◌||◌, ◌⊎◌, inl, inr, max, false, bit_or, refl, sym, ap, ◌∙◌, arith}
use Rattle.std.proofs.Common.{eq-eqb, rules}
use Rattle.std.specs.Int.{bit_at}
use Rattle.std.proofs.lemmas.Nat.Bits.{bit_at_or, bit_at-lt, bit_at-zero, bit_at-pow_same, bit_at-pow_other}
use Rattle.std.proofs.lemmas.Bool.{cases_eq}
use Rattle.dlk_tree.specs.declared.op.Op.{Op}
use Rattle.dlk_tree.specs.declared.op.Op.TheVariants.{Dot}
use Rattle.dlk_tree.specs.Occurs.{is_dot}
use Rattle.dlk_shared.specs.Kept.{dot_bit}

max_bit : (a b : ℕ) → a < 2 → b < 2 → (max a b == 1) ≡ ((a == 1) || (b == 1))
max_bit zero zero p q = refl
max_bit zero (suc zero) p q = refl
max_bit (suc zero) zero p q = refl
max_bit (suc zero) (suc zero) p q = refl
max_bit (suc (suc a)) b p q = absurd (omega arith)
max_bit a (suc (suc b)) p q = absurd (omega arith)

-- a bit is set in either of two where it is in both together
pub or_bit : (a b n : ℕ) → (bit_at (bit_or a b) n == 1) ≡ ((bit_at a n == 1) || (bit_at b n == 1))
or_bit a b n = ap (λ x. x == 1) (bit_at_or a b n) ∙ max_bit (bit_at a n) (bit_at b n) (bit_at-lt a n) (bit_at-lt b n)

unequal : (m n : ℕ) → m ≢ n → (m == n) ≡ false
unequal m n h = search rules

pow_bit : (m n : ℕ) → (bit_at (2 ^ m) n == 1) ≡ (m == n)
pow_bit m n = by (cases_eq n m)
  where
    by : (n ≡ m) ⊎ (n ≢ m) → (bit_at (2 ^ m) n == 1) ≡ (m == n)
    by (inl e) = ap (λ k. bit_at (2 ^ m) k == 1) e ∙ ap (λ x. x == 1) (bit_at-pow_same m) ∙ sym (eq-eqb m n (sym e))
    by (inr h) = let f : (m == n) ≡ false = unequal m n (λ e. h (sym e)) in ap (λ x. x == 1) (bit_at-pow_other m n h) ∙ sym f

-- the bit of an operator tells its dot
pub own_dot : (op : Op) (n : ℕ) → (bit_at (dot_bit op) n == 1) ≡ is_dot n op
own_dot (Dot m) n = pow_bit m n
own_dot _ n = ap (λ x. x == 1) (bit_at-zero n)
