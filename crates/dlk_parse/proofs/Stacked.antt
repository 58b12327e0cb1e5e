-- What was put on a stack last is on top of it.
use Rattle.std.proofs.Common.{◌≡◌, ℕ, ◌-◌, List, ◌++◌, length, arith}
use Rattle.std.proofs.lemmas.List.{length-append, take_at, drop_at}
use Rattle.dlk_parse.specs.Stacks.{top, below}

pub top_is : {A : Type 0} (s r : List A) (n : ℕ) → n ≡ length r → top n (s ++ r) ≡ r
top_is s r n e = drop_at s r (length (s ++ r) - n) (omega (arith, length-append s r))

pub below_is : {A : Type 0} (s r : List A) (n : ℕ) → n ≡ length r → below n (s ++ r) ≡ s
below_is s r n e = take_at s r (length (s ++ r) - n) (omega (arith, length-append s r))
