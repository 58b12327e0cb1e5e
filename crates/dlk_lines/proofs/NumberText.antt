-- A number of a line is read from its decimal digits.
use Rattle.std.proofs.Common.{◌≡◌, ◌≢◌, ℕ, ◌≤◌, ◌<◌, ◌%◌, ◌/◌, ◌*◌, ◌+◌, ◌-◌, ◌^◌, true, List, [], ◌∷◌, ◌++◌, length, get_or, refl, subst, arith}
use Rattle.std.specs.Fmt.{decimal}
use Rattle.std.specs.List.{list_all}
use Rattle.std.proofs.lemmas.Bool.Decides.{nat_tests}
use Rattle.std.proofs.lemmas.Fmt.{decimal_by_steps, length-decimal-le, decimal_nonempty, first_decimal}
use Rattle.std.proofs.lemmas.List.Folds.{list_all-append}
use Rattle.std.proofs.lemmas.List.Sums.{fold_push}
use Rattle.dlk_grammar.specs.Tokens.{is_digit, value}
use Rattle.dlk_lines.specs.Numbers.{IsNumber, IsLineNumber}
use Rattle.dlk_lines.proofs.Numbers.{number_from_parts}

-- digits that say a number
record Says (n : ℕ) (ds : List ℕ) : Type 0 where
  pub all : list_all is_digit ds ≡ true
  pub says : value ds ≡ n

digit : (d : ℕ) → d < 10 → is_digit (48 + d) ≡ true
digit d h = grind (arith, nat_tests)

one_digit : (n : ℕ) → n < 10 → Says n ((48 + n) ∷ [])
one_digit n h = record { all = let d = digit n h in rw d refl; says = omega arith }

more_digits : (n : ℕ) (ds : List ℕ) → 10 ≤ n → Says (n / 10) ds → Says n (ds ++ (48 + n % 10) ∷ [])
more_digits n ds h d =
    let last = digit (n % 10) (omega arith) in
    let pushed : value (ds ++ (48 + n % 10) ∷ []) ≡ 10 * value ds + ((48 + n % 10) - 48) = fold_push (λ (n b : ℕ). 10 * n + (b - 48)) 0 ds (48 + n % 10) in
    record {
      all = rw (list_all-append is_digit ds ((48 + n % 10) ∷ []), d.all, last) refl;
      says = omega (arith, pushed, d.says);
    }

-- a number of a line is read from its decimal digits
pub number_read : (n : ℕ) → IsLineNumber n → IsNumber (decimal n) n
number_read n h =
    let wide : n < 2 ^ 64 = omega (arith, h.few) in
    let d = decimal_by_steps Says one_digit more_digits n wide in
    let some : 1 ≤ length (decimal n) = decimal_nonempty n wide in
    let few : length (decimal n) ≤ 9 = length-decimal-le 9 n (omega arith) (omega (arith, h.few)) wide in
    let first = first_decimal n h.some wide in
    let other : get_or (decimal n) 0 0 ≢ 48 = λ e. absurd (omega (arith, first, e)) in
    subst (IsNumber (decimal n)) d.says (number_from_parts (decimal n) d.all some few other)
