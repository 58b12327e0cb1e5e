-- The text of an argument dot's number is one digit.
use Rattle.std.proofs.Common.{◌≡◌, ℕ, zero, suc, ◌+◌, ◌<◌, true, [], ◌∷◌, refl, ap, ◌∙◌, arith}
use Rattle.std.specs.Fmt.{decimal, digits}
use Rattle.std.specs.List.{list_all}
use Rattle.std.proofs.lemmas.Bool.Decides.{nat_tests}
use Rattle.dlk_grammar.specs.Tokens.{is_digit, value}

pub one_digit : (n : ℕ) → n < 8 → decimal n ≡ (48 + n) ∷ []
unfolding digits
one_digit zero h = refl
one_digit (suc zero) h = refl
one_digit (suc (suc zero)) h = refl
one_digit (suc (suc (suc zero))) h = refl
one_digit (suc (suc (suc (suc zero)))) h = refl
one_digit (suc (suc (suc (suc (suc zero))))) h = refl
one_digit (suc (suc (suc (suc (suc (suc zero)))))) h = refl
one_digit (suc (suc (suc (suc (suc (suc (suc zero))))))) h = refl
one_digit (suc (suc (suc (suc (suc (suc (suc (suc n)))))))) h = absurd (omega (arith, h))

pub dot_value : (n : ℕ) → n < 8 → value (decimal n) ≡ n
dot_value n h = ap value (one_digit n h) ∙ omega arith

is_dot_digit : (n : ℕ) → n < 8 → is_digit (48 + n) ≡ true
is_dot_digit n h = grind (arith, nat_tests)

pub dot_digits : (n : ℕ) → n < 8 → list_all is_digit (decimal n) ≡ true
dot_digits n h = ap (list_all is_digit) (one_digit n h) ∙ (let d = is_dot_digit n h in rw d refl)
