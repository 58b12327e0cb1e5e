-- What a list contains, item by item.
use Rattle.std.proofs.Common.{◌≡◌, sym, ℕ, zero, suc, List, [], ◌∷◌, ◌⊎◌, inl, inr, arith}
use Rattle.std.specs.List.{Contains}
use Rattle.dlk_calculus.specs.Steps.{Step}
use Rattle.dlk_rules.specs.Facts.{facts_of}

-- it is one of these
abbrev pub IsIn : {A : Type 0} → A → List A → Type 0
IsIn x [] = ⊥
IsIn x (y ∷ ys) = (x ≡ y) ⊎ IsIn x ys

pub in_from_contains : {A : Type 0} (xs : List A) (x : A) → Contains xs x → IsIn x xs
in_from_contains [] x (k, lt, e) = absurd (omega (arith, lt))
in_from_contains (y ∷ xs) x (zero, lt, e) = inl (sym e)
in_from_contains (y ∷ xs) x (suc k, lt, e) = inr (in_from_contains xs x (k, omega (arith, lt), e))

pub contains_from_in : {A : Type 0} (xs : List A) (x : A) → IsIn x xs → Contains xs x
contains_from_in [] x h = absurd h
contains_from_in (y ∷ xs) x (inl e) = (0, omega arith, sym e)
contains_from_in (y ∷ xs) x (inr h) = let c = contains_from_in xs x h in let lt = c.1 in (suc c.0, omega (arith, lt), c.2)

-- the step names the fact
abbrev pub HasFact : Step → ℕ → Type 0
HasFact step fact = IsIn fact (facts_of step)
