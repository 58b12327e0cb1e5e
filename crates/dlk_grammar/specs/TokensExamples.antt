-- Spellings of tokens.
use Rattle.std.specs.Prelude.{codes, refl}
use Rattle.std.proofs.Common.{lit<, lit≤}
use Rattle.dlk_grammar.specs.declared.token.TokenKind.TheVariants.{Word, Number, Dot}
use Rattle.dlk_grammar.specs.Tokens.{Spells, word, integer, decimal, dot}

-- a name
name : Spells (codes "x_1") (Word (codes "x_1"))
name = word (codes "x_1") refl

-- zeros in front count for nothing, nor do those at the fraction's end
zeros_in_front : Spells (codes "007") (Number (record { digits = 7; scale = 0 }))
zeros_in_front = integer (codes "007") refl (lit≤ tt)

-- both at once
half : Spells (codes "00.50") (Number (record { digits = 5; scale = 1 }))
half = decimal (codes "00") (codes "50") refl refl (lit≤ tt)

-- a zero inside is kept
hundredths : Spells (codes "1.05") (Number (record { digits = 105; scale = 2 }))
hundredths = decimal (codes "1") (codes "05") refl refl (lit≤ tt)

-- a fraction of zeros goes with its point
no_fraction : Spells (codes "10.00") (Number (record { digits = 10; scale = 0 }))
no_fraction = decimal (codes "10") (codes "00") refl refl (lit≤ tt)

-- the last of the dots
last_dot : Spells (codes "._7") (Dot 7)
last_dot = dot 7 (lit< tt)
