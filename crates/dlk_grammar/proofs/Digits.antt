-- The number that digits say, digit by digit.
use Rattle.std.proofs.Common.{◌≡◌, ℕ, zero, suc, ◌+◌, ◌*◌, ◌^◌, ◌<◌, ◌≤◌, true, List, [], ◌∷◌, length, get_or, arith}
use Rattle.std.specs.List.{list_all}
use Rattle.std.proofs.Math.Nat.{pow-succ'}
use Rattle.std.proofs.lemmas.Bool.{and_parts, leb-true}
use Rattle.dlk_grammar.specs.Tokens.{is_digit}

-- one digit more
pub below_more : (i v d : ℕ) → v < 10 ^ i → d ≤ 9 → 10 * v + d < 10 ^ (i + 1)
below_more i v d h le = let n : i + 1 ≡ suc i = omega arith in rw n (omega (arith, pow-succ' 10 i))

-- a digit of a run
pub digit_at : (ds : List ℕ) (i : ℕ) → list_all is_digit ds ≡ true → i < length ds → (48 ≤ get_or ds i 0) × (get_or ds i 0 ≤ 57)
digit_at [] i h lt = absurd (omega arith)
digit_at (d ∷ ds) zero h lt =
    let w = and_parts _ _ (and_parts (is_digit d) (list_all is_digit ds) h).0 in
    (leb-true 48 d w.0, leb-true d 57 w.1)
digit_at (d ∷ ds) (suc i) h lt = digit_at ds i (and_parts (is_digit d) (list_all is_digit ds) h).1 (omega arith)
