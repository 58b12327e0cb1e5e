-- Stacks, which have their last item on top.
use Rattle.std.specs.Prelude.{ℕ, ◌-◌, List, length, take, drop}

-- the last n, and what is below them
abbrev pub top : {A : Type 0} → ℕ → List A → List A
top n stack = drop (length stack - n) stack

abbrev pub below : {A : Type 0} → ℕ → List A → List A
below n stack = take (length stack - n) stack
