-- What steps replace are symbols.
use Rattle.std.proofs.Common.{List, refl}
use Rattle.std.specs.Prelude.{All}
use Rattle.std.proofs.lemmas.List.Elements.{All-weaker}
use Rattle.dlk_calculus.specs.Steps.{Step, Start, UseAxiom, UseRule, Leaf, Apply, Merge, Substitute, Rename}
use Rattle.dlk_elab.specs.Symbols.{ReplacesSymbols}
use Rattle.dlk_recorder.specs.Terms.{HasSymbols}

has_symbols : (step : Step) → ReplacesSymbols step → HasSymbols step
has_symbols (Start s) h = tt
has_symbols (UseAxiom name) h = tt
has_symbols (UseRule name) h = tt
has_symbols (Leaf s) h = tt
has_symbols (Apply fact goal rule) h = tt
has_symbols (Merge fact goal by) h = tt
has_symbols (Substitute fact pairs) h = h fact pairs refl
has_symbols (Rename fact x y) h = tt

pub all_symbols : (steps : List Step) → All ReplacesSymbols steps → All HasSymbols steps
all_symbols steps h = All-weaker ReplacesSymbols HasSymbols has_symbols steps h
