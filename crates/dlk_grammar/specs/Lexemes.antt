-- The tokens as the grammar sees them. Names and opening braces keep their place among the tokens, so that a construct
-- that begins with one has a place.
use Rattle.std.specs.Prelude.{ℕ, ◌+◌, List, [], ◌∷◌, ◌++◌}
use Rattle.dlk_tree.specs.declared.op.Num.{Num}
use Rattle.dlk_grammar.specs.declared.token.Mark.{Mark}
use Rattle.dlk_grammar.specs.declared.token.Mark.TheVariants as mark
use Rattle.dlk_grammar.specs.declared.token.Token.{Token}
use Rattle.dlk_grammar.specs.declared.token.TokenKind.{TokenKind}
use Rattle.dlk_grammar.specs.declared.token.TokenKind.TheVariants as kind
use Rattle.dlk_grammar.specs.declared.token.Infix.{Infix}
use Rattle.dlk_grammar.specs.declared.token.Infix.TheVariants.{Equiv, Imply, Or, And, Equal, NotEqual, AtLeast, Greater, AtMost, Less, Add, Sub, Mul}
use Rattle.dlk_grammar.specs.declared.token.Infix.TheVariants.{Div, Pow, Choice}

abbrev pub Word : Type 0
Word = List ℕ

pub data Lexeme : Type 0 where
  -- a name, after its place
  Name : ℕ → Word → Lexeme
  Number : Num → Lexeme
  -- ._0 to ._7
  Dot : ℕ → Lexeme
  -- _
  Blank : Lexeme
  -- true false
  True : Lexeme
  False : Lexeme
  -- \forall \exists @invariant
  All : Lexeme
  Exist : Lexeme
  Invariant : Lexeme
  -- (||) (| |) {| |}
  RoundBars : Lexeme
  RoundBar : Lexeme
  BarRound : Lexeme
  BraceBar : Lexeme
  BarBrace : Lexeme
  -- ( ) [ ]
  Open : Lexeme
  Close : Lexeme
  OpenBox : Lexeme
  CloseBox : Lexeme
  -- {, after its place, and }
  OpenBrace : ℕ → Lexeme
  CloseBrace : Lexeme
  -- ! ' := ? ; , ==> ~> ~~
  Bang : Lexeme
  Prime : Lexeme
  Gets : Lexeme
  Query : Lexeme
  Semi : Lexeme
  Comma : Lexeme
  Turnstile : Lexeme
  Becomes : Lexeme
  Swaps : Lexeme
  -- what stands between two operands: <-> -> | & = != >= > <= < + - * / ^ ++
  Op : Infix → Lexeme

-- the mark at place n
abbrev pub lexeme_of_mark : ℕ → Mark → Lexeme
lexeme_of_mark n mark.Forall = All
lexeme_of_mark n mark.Exists = Exist
lexeme_of_mark n mark.Invariant = Invariant
lexeme_of_mark n mark.RoundBars = RoundBars
lexeme_of_mark n mark.RoundBar = RoundBar
lexeme_of_mark n mark.BarRound = BarRound
lexeme_of_mark n mark.BraceBar = BraceBar
lexeme_of_mark n mark.BarBrace = BarBrace
lexeme_of_mark n mark.OpenRound = Open
lexeme_of_mark n mark.CloseRound = Close
lexeme_of_mark n mark.OpenSquare = OpenBox
lexeme_of_mark n mark.CloseSquare = CloseBox
lexeme_of_mark n mark.OpenBrace = OpenBrace n
lexeme_of_mark n mark.CloseBrace = CloseBrace
lexeme_of_mark n mark.Equiv = Op Equiv
lexeme_of_mark n mark.Imply = Op Imply
lexeme_of_mark n mark.And = Op And
lexeme_of_mark n mark.Or = Op Or
lexeme_of_mark n mark.Not = Bang
lexeme_of_mark n mark.Turnstile = Turnstile
lexeme_of_mark n mark.Equal = Op Equal
lexeme_of_mark n mark.NotEqual = Op NotEqual
lexeme_of_mark n mark.AtLeast = Op AtLeast
lexeme_of_mark n mark.Greater = Op Greater
lexeme_of_mark n mark.AtMost = Op AtMost
lexeme_of_mark n mark.Less = Op Less
lexeme_of_mark n mark.Plus = Op Add
lexeme_of_mark n mark.Minus = Op Sub
lexeme_of_mark n mark.Star = Op Mul
lexeme_of_mark n mark.Slash = Op Div
lexeme_of_mark n mark.Caret = Op Pow
lexeme_of_mark n mark.Prime = Prime
lexeme_of_mark n mark.Gets = Gets
lexeme_of_mark n mark.Choice = Op Choice
lexeme_of_mark n mark.Query = Query
lexeme_of_mark n mark.Semicolon = Semi
lexeme_of_mark n mark.Comma = Comma
lexeme_of_mark n mark.Becomes = Becomes
lexeme_of_mark n mark.Swaps = Swaps

-- The token at place n, which is none at the end. A literal that is too long is a number to the grammar.
abbrev pub lexeme_of : ℕ → TokenKind → List Lexeme
lexeme_of n (kind.Word x) = Name n x ∷ []
lexeme_of n kind.True = True ∷ []
lexeme_of n kind.False = False ∷ []
lexeme_of n (kind.Number d) = Number d ∷ []
lexeme_of n kind.LongNumber = Number (record { digits = 0; scale = 0 }) ∷ []
lexeme_of n (kind.Dot d) = Dot d ∷ []
lexeme_of n kind.Hole = Blank ∷ []
lexeme_of n (kind.Mark m) = lexeme_of_mark n m ∷ []
lexeme_of n kind.End = []

-- the tokens from place n on
abbrev pub lexemes_from : ℕ → List Token → List Lexeme
lexemes_from n [] = []
lexemes_from n (t ∷ ts) = lexeme_of n t.kind ++ lexemes_from (n + 1) ts

abbrev pub lexemes : List Token → List Lexeme
lexemes tokens = lexemes_from 0 tokens
