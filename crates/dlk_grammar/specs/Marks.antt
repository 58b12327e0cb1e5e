-- The list of all marks.
use Rattle.std.specs.Prelude.{List, [], ◌∷◌}
use Rattle.dlk_grammar.specs.declared.token.Mark.{Mark}
use Rattle.dlk_grammar.specs.declared.token.Mark.TheVariants as mark

-- longer ones before shorter ones
abbrev pub marks : List Mark
marks =
    mark.Invariant ∷
    mark.Forall ∷
    mark.Exists ∷
    mark.RoundBars ∷
    mark.Equiv ∷
    mark.Turnstile ∷
    mark.RoundBar ∷
    mark.BarRound ∷
    mark.BraceBar ∷
    mark.BarBrace ∷
    mark.Imply ∷
    mark.NotEqual ∷
    mark.AtLeast ∷
    mark.AtMost ∷
    mark.Gets ∷
    mark.Choice ∷
    mark.Becomes ∷
    mark.Swaps ∷
    mark.OpenRound ∷
    mark.CloseRound ∷
    mark.OpenSquare ∷
    mark.CloseSquare ∷
    mark.OpenBrace ∷
    mark.CloseBrace ∷
    mark.And ∷
    mark.Or ∷
    mark.Not ∷
    mark.Equal ∷
    mark.Greater ∷
    mark.Less ∷
    mark.Plus ∷
    mark.Minus ∷
    mark.Star ∷
    mark.Slash ∷
    mark.Caret ∷
    mark.Prime ∷
    mark.Query ∷
    mark.Semicolon ∷
    mark.Comma ∷
    []
