-- Symbols of pairs.
use Rattle.std.specs.Prelude.{◌≡◌, List}
use Rattle.std.specs.List.{list_any}
use Rattle.dlk_tree.specs.Tests.{sym_eq}
use Rattle.dlk_tree.specs.declared.op.Sym.{Sym}
use Rattle.dlk_calculus.specs.Pairs.{Pair}

-- the symbols are those of the pairs
abbrev pub AreSymbolsOf : List Pair → List Sym → Type 0
AreSymbolsOf pairs symbols = (s : Sym) → list_any (sym_eq s) symbols ≡ list_any (λ (p : Pair). sym_eq s p.sym) pairs
