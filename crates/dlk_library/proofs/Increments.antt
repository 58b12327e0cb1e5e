-- One assignment more at the end is one more in front.
use Rattle.std.proofs.Common.{◌≡◌, ℕ, zero, suc, ◌++◌, refl, ap}
use Rattle.std.specs.Prelude.{codes}
use Rattle.dlk_library.specs.Generated.{increments}

pub increments_last : (n : ℕ) → increments (suc n) ≡ increments n ++ codes "[x:=x+1;]"
increments_last zero = refl
increments_last (suc n) = ap (λ xs. codes "[x:=x+1;]" ++ xs) (increments_last n)
