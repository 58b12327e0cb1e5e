-- What is replaced in a step's pairs are symbols.
use Rattle.std.specs.Prelude.{All}
use Rattle.dlk_calculus.specs.Steps.{Step, Start, UseAxiom, UseRule, Leaf, Apply, Merge, Substitute, Rename}
use Rattle.dlk_machine.specs.Symbols.{ReplacesSymbol}

-- their names are names, and their arity and their taboo are those of their kind
abbrev pub HasSymbols : Step → Type 0
HasSymbols (Start s) = Unit {0}
HasSymbols (UseAxiom name) = Unit {0}
HasSymbols (UseRule name) = Unit {0}
HasSymbols (Leaf s) = Unit {0}
HasSymbols (Apply fact goal rule) = Unit {0}
HasSymbols (Merge fact goal by) = Unit {0}
HasSymbols (Substitute fact pairs) = All ReplacesSymbol pairs
HasSymbols (Rename fact x y) = Unit {0}
