-- The machine of names with their new names, and of pairs behind them.
use Rattle.std.specs.Prelude.{List, [], ◌∷◌, ◌++◌, Option, Some, None}
use Rattle.dlk_grammar.specs.Lexemes.{Word, Lexeme, Name, Comma, Swaps}
use Rattle.dlk_grammar.specs.Extras.{Rename, ExtraPhrase}
use Rattle.dlk_machine.specs.Machine.{◌>>=◌}
use Rattle.dlk_machine.specs.Parse.{Machine}
use Rattle.dlk_machine.specs.Pairs.{Begins, LeftName, PairsState, Fresh, Within, pairs_step, pairs_ended}

-- With the renames so far: what is read of the pairs, where a name may still be that of a rename; x ~~; a whole rename.
pub data ExtraState : Type 0 where
  InPairs : List Rename → PairsState → ExtraState
  NewWanted : List Rename → Word → ExtraState
  Renamed : List Rename → ExtraState

-- At ~~ the name with which the first pair would begin is that of a rename; each other token is the pairs'.
abbrev pub extra_step : ExtraState → Lexeme → Option ExtraState
extra_step (InPairs l (Within [] (LeftName x))) Swaps = Some (NewWanted l x)
extra_step (InPairs l x) k = pairs_step x k >>= λ y. Some (InPairs l y)
extra_step (NewWanted l x) (Name n y) = Some (Renamed (l ++ (x, y) ∷ []))
extra_step (Renamed l) Comma = Some (InPairs l (Within [] Begins))
extra_step _ _ = None

abbrev pub extra_ended : ExtraState → Option ExtraPhrase
extra_ended (InPairs l x) = pairs_ended x >>= λ p. Some (record { renames = l; pairs = p })
extra_ended (NewWanted l x) = None
extra_ended (Renamed l) = Some (record { renames = l; pairs = [] })

-- The reader of renames and pairs.
abbrev pub extra_reader : Machine ExtraState ExtraPhrase
extra_reader = record { start = InPairs [] Fresh; step = extra_step; ended = extra_ended }
