-- The parts of a text between bytes of one kind, and what they say one by one.
use Rattle.std.specs.Prelude.{ℕ, ◌==◌, if◌then◌else◌, List, [], ◌∷◌}

-- a byte put before the first of the parts
abbrev pub before_first : ℕ → List (List ℕ) → List (List ℕ)
before_first c [] = (c ∷ []) ∷ []
before_first c (part ∷ parts) = (c ∷ part) ∷ parts

-- the parts between these bytes
abbrev pub parts_of : ℕ → List ℕ → List (List ℕ)
parts_of byte [] = [] ∷ []
parts_of byte (c ∷ text) = if c == byte then [] ∷ parts_of byte text else before_first c (parts_of byte text)

-- each part says the item that stands beside it
abbrev pub Each : {A : Type 0} → (List ℕ → A → Type 0) → List (List ℕ) → List A → Type 0
Each Says [] [] = Unit {0}
Each Says [] (x ∷ xs) = ⊥
Each Says (part ∷ parts) [] = ⊥
Each Says (part ∷ parts) (x ∷ xs) = Says part x × Each Says parts xs
