-- The first entries of a row.
use Rattle.std.proofs.Common.{◌≡◌, ◌<◌, ◌≤◌, ℕ, zero, suc, List, [], ◌∷◌, take, length, refl, ap, arith}
use Rattle.std.specs.List.{slice_set}

pub first_are_few : {X : Type 0} (xs : List X) (n : ℕ) → length (take n xs) ≤ n
first_are_few xs zero = omega arith
first_are_few [] (suc n) = omega arith
first_are_few (y ∷ xs) (suc n) = let rest = first_are_few xs n in omega (arith, rest)

-- what is put among the first n
pub take-set_within : {X : Type 0} (xs : List X) (n i : ℕ) (x : X) → i < n → take n (slice_set xs i x) ≡ slice_set (take n xs) i x
take-set_within xs zero i x less = absurd (omega (arith, less))
take-set_within [] (suc n) i x less = refl
take-set_within (y ∷ xs) (suc n) zero x less = refl
take-set_within (y ∷ xs) (suc n) (suc i) x less = ap (λ l. y ∷ l) (take-set_within xs n i x (omega (arith, less)))
