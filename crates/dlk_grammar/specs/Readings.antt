-- What tokens say, and why they say nothing.
use Rattle.std.specs.Prelude.{◌≡◌, ℕ, ◌+◌, ◌-◌, ◌<◌, ◌≤◌, min, Bool, true, false, List, [], ◌∷◌, ◌++◌, length, map, fold, All, Some, flat_map, if◌then◌else◌}
use Rattle.dlk_calculus.specs.Limits.{most_nodes, greatest_depth}
use Rattle.dlk_tree.specs.Trees.{Tree, size, depth}
use Rattle.dlk_calculus.specs.Sequents.{Sequent as TreeSequent}
use Rattle.dlk_grammar.specs.declared.token.Token.{Token}
use Rattle.dlk_grammar.specs.declared.token.TokenKind.{TokenKind}
use Rattle.dlk_grammar.specs.declared.token.TokenKind.TheVariants as kind
use Rattle.dlk_grammar.specs.declared.token.Mark.TheVariants as mark
use Rattle.dlk_grammar.specs.declared.token.Dots.{Dots}
use Rattle.dlk_grammar.specs.declared.token.Dots.TheVariants.{Refused}
use Rattle.dlk_grammar.specs.declared.token.Form.{Form}
use Rattle.dlk_grammar.specs.declared.token.Form.TheVariants.{Formula, Term, Program, Expression}
use Rattle.dlk_grammar.specs.Lexemes.{Lexeme, Dot, Blank, lexemes}
use Rattle.dlk_grammar.specs.Phrases.{Phrase, Phrases, none, snoc}
use Rattle.dlk_grammar.specs.Grammar.{formula, term, prog, Reads, Sides, Turned, ReadsSequent, ReadsExpression}
use Rattle.dlk_grammar.specs.Erased.{erase, erase_all, ills, lowest}

-- where they are refused, argument dots and the hole aren't in the grammar
abbrev pub permits : Dots → Lexeme → Bool
permits Refused (Dot n) = false
permits Refused Blank = false
permits _ _ = true

abbrev pub Permitted : Dots → List Lexeme → Type 0
Permitted d [] = Unit {0}
Permitted d (k ∷ s) = (permits d k ≡ true) × Permitted d s

-- The lexemes are a text of the grammar, and what they say.
pub record Says {P : Type 0} (d : Dots) (G : List Lexeme → P → Type 0) (s : List Lexeme) (p : P) : Type 0 where
  pub reads : G s p
  pub permitted : Permitted d s

-- The lexemes are the front of a text.
pub record Begins {P : Type 0} (d : Dots) (G : List Lexeme → P → Type 0) (s : List Lexeme) : Type 0 where
  pub more : List Lexeme
  pub said : P
  pub text : Says d G (s ++ more) said

-- Lexemes stop at the first of them at which no text goes on; or at their end, where they are the front of a text and none themselves.
pub data Stops {P : Type 0} (d : Dots) (G : List Lexeme → P → Type 0) : List Lexeme → ℕ → Type 0 where
  stops-token : {s : List Lexeme} (k : Lexeme) (r : List Lexeme) → Begins d G s → ¬ Begins d G (s ++ k ∷ []) → Stops d G (s ++ k ∷ r) (length s)
  stops-end : {s : List Lexeme} → Begins d G s → ((p : P) → ¬ Says d G s p) → Stops d G s (length s)

-- whether a token opens a bracket level; a bracket of a unit symbol, as `(|`, doesn't
abbrev pub opens : TokenKind → Bool
opens (kind.Mark mark.OpenRound) = true
opens (kind.Mark mark.OpenSquare) = true
opens (kind.Mark mark.OpenBrace) = true
opens _ = false

-- whether a token closes a bracket level, whichever bracket has opened it
abbrev pub closes : TokenKind → Bool
closes (kind.Mark mark.CloseRound) = true
closes (kind.Mark mark.CloseSquare) = true
closes (kind.Mark mark.CloseBrace) = true
closes _ = false

-- the bracket level behind a token; one that closes leaves level 0 as it is
abbrev pub level_behind : ℕ → TokenKind → ℕ
level_behind level k = if opens k then level + 1 else (if closes k then level - 1 else level)

abbrev pub bracket_level : List Token → ℕ
bracket_level tokens = fold (λ n t. level_behind n t.kind) 0 tokens

-- the first token with the property, which may speak of the tokens before it, is at this byte
pub record FirstAt (Is : List Token → TokenKind → Type 0) (tokens : List Token) (at : ℕ) : Type 0 where
  pub before : List Token
  pub token : Token
  pub behind : List Token
  pub tokens_are : tokens ≡ before ++ token ∷ behind
  pub is : Is before token.kind
  pub first : (sooner after : List Token) (t : Token) → before ≡ sooner ++ t ∷ after → ¬ Is sooner t.kind
  pub place : at ≡ token.at

abbrev pub IsLong : List Token → TokenKind → Type 0
IsLong before k = k ≡ kind.LongNumber

-- how many bracket levels may be open
abbrev pub most_levels : ℕ
most_levels = 1200

abbrev pub OpensTooDeep : List Token → TokenKind → Type 0
OpensTooDeep before k = (bracket_level before ≡ most_levels) × (opens k ≡ true)

-- the token of this place among the tokens is at this byte
pub record TokenAt (tokens : List Token) (place at : ℕ) : Type 0 where
  pub before : List Token
  pub token : Token
  pub behind : List Token
  pub tokens_are : tokens ≡ before ++ token ∷ behind
  pub count : length before ≡ place
  pub at_is : at ≡ token.at

-- n is the measure of the first of the trees for which it passes the limit; it stays at the greatest number of 32 bits
pub record FirstPast (measure : Tree → ℕ) (limit : ℕ) (trees : List Tree) (n : ℕ) : Type 0 where
  pub before : List Tree
  pub tree : Tree
  pub behind : List Tree
  pub trees_are : trees ≡ before ++ tree ∷ behind
  pub past : limit < measure tree
  pub first : All (λ t. measure t ≤ limit) before
  pub number : n ≡ min (measure tree) 4294967295

-- why tokens aren't read
pub data ReadFault : Type 0 where
  -- a literal of more than 38 digits as written is at this byte
  Literal : ℕ → ReadFault
  -- the bracket that opens level 1,201 is at this byte
  Nesting : ℕ → ReadFault
  -- the first token at which no text of the grammar goes on is at this byte
  Syntax : ℕ → ReadFault
  -- an application of more than 8 arguments, or a system of more than 64 items or that evolves a variable twice, begins at this byte
  Shape : ℕ → ReadFault
  -- a read tree has so many nodes
  TooBig : ℕ → ReadFault
  -- a read tree is so deep
  TooDeep : ℕ → ReadFault

-- the order of the faults
abbrev pub fault_rank : ReadFault → ℕ
fault_rank (Literal at) = 1
fault_rank (Nesting at) = 2
fault_rank (Syntax at) = 3
fault_rank (Shape at) = 4
fault_rank (TooBig n) = 5
fault_rank (TooDeep n) = 6

-- What speaks against tokens as a text of a form. The form is given by its grammar and the phrases of its read trees in
-- order. One row a fault.
abbrev pub SpeaksAgainst : {P : Type 0} → (List Lexeme → P → Type 0) → (P → List Phrase) → Dots → List Token → ReadFault → Type 0
SpeaksAgainst G parts d tokens (Literal at) = FirstAt IsLong tokens at
SpeaksAgainst G parts d tokens (Nesting at) = FirstAt OpensTooDeep tokens at
SpeaksAgainst G parts d tokens (Syntax at) = (place : ℕ) × Stops d G (lexemes tokens) place × TokenAt tokens place at
SpeaksAgainst {P} G parts d tokens (Shape at) = (p : P) × Says d G (lexemes tokens) p ×
    ((place : ℕ) × (lowest (flat_map ills (parts p)) ≡ Some place) × TokenAt tokens place at)
SpeaksAgainst {P} G parts d tokens (TooBig n) = (p : P) × Says d G (lexemes tokens) p × FirstPast size most_nodes (map erase (parts p)) n
SpeaksAgainst {P} G parts d tokens (TooDeep n) = (p : P) × Says d G (lexemes tokens) p × FirstPast depth greatest_depth (map erase (parts p)) n

-- the first that applies
pub record IsReadFault {P : Type 0} (G : List Lexeme → P → Type 0) (parts : P → List Phrase) (d : Dots) (tokens : List Token) (why : ReadFault) : Type 0 where
  pub applies : SpeaksAgainst G parts d tokens why
  pub first : (other : ReadFault) → fault_rank other < fault_rank why → ¬ SpeaksAgainst G parts d tokens other

-- the tokens say this, and there is no fault
pub record IsRead {P R : Type 0} (G : List Lexeme → P → Type 0) (parts : P → List Phrase) (d : Dots) (tokens : List Token) (value : P → R)
    (r : R) : Type 0 where
  pub phrase : P
  pub says : Says d G (lexemes tokens) phrase
  pub value_is : value phrase ≡ r
  pub no_fault : (why : ReadFault) → ¬ SpeaksAgainst G parts d tokens why

-- the grammar of a term, a formula, a program, an expression
abbrev pub grammar : Form → List Lexeme → Phrase → Type 0
grammar Formula = Reads formula
grammar Term = Reads term
grammar Program = Reads prog
grammar Expression = ReadsExpression

abbrev pub itself : Phrase → List Phrase
itself p = p ∷ []

-- the tokens are those of the tree
abbrev pub IsTree : Form → Dots → List Token → Tree → Type 0
IsTree form d tokens t = IsRead (grammar form) itself d tokens erase t

abbrev pub IsTreeFault : Form → Dots → List Token → ReadFault → Type 0
IsTreeFault form d tokens why = IsReadFault (grammar form) itself d tokens why

abbrev pub phrases_in : Phrases → List Phrase
phrases_in none = []
phrases_in (snoc l p) = phrases_in l ++ p ∷ []

abbrev pub both_sides : Sides → List Phrase
both_sides (Turned l m) = phrases_in l ++ phrases_in m

abbrev pub erase_sides : Sides → TreeSequent
erase_sides (Turned l m) = record { ante = erase_all l; succ = erase_all m }

-- the tokens are those of the sequent; dots are refused
abbrev pub IsSequentOf : List Token → TreeSequent → Type 0
IsSequentOf tokens s = IsRead ReadsSequent both_sides Refused tokens erase_sides s

abbrev pub IsSequentFault : List Token → ReadFault → Type 0
IsSequentFault tokens why = IsReadFault ReadsSequent both_sides Refused tokens why
