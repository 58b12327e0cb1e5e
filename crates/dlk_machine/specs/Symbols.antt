-- What a pair replaces.
use Rattle.std.specs.Prelude.{◌≡◌, true}
use Rattle.dlk_tree.specs.Table.{is_sym}
use Rattle.dlk_calculus.specs.Pairs.{Pair}

-- it is a symbol: its names are names, and its arity is one that a symbol of its kind may have
abbrev pub ReplacesSymbol : Pair → Type 0
ReplacesSymbol p = is_sym p.sym ≡ true
