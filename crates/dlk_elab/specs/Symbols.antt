-- Steps that replace symbols.
use Rattle.std.specs.Prelude.{◌≡◌, ℕ, List, All}
use Rattle.dlk_calculus.specs.Pairs.{Pair}
use Rattle.dlk_calculus.specs.Steps.{Step, Substitute}
use Rattle.dlk_machine.specs.Symbols.{ReplacesSymbol}

-- if the step substitutes, what it replaces are symbols
abbrev pub ReplacesSymbols : Step → Type 0
ReplacesSymbols step = (fact : ℕ) (pairs : List Pair) → step ≡ Substitute fact pairs → All ReplacesSymbol pairs
