-- What comes of reading on, whatever is read.
use Rattle.std.specs.Prelude.{◌≡◌, ℕ, ◌+◌, List, [], ◌∷◌, ◌++◌, Result, Ok, Err}
use Rattle.dlk_grammar.specs.declared.token.Token.{Token}
use Rattle.dlk_grammar.specs.Lexemes.{Lexeme, lexemes}
use Rattle.dlk_grammar.specs.Readings.{TokenAt}
use Rattle.dlk_lex.specs.declared.fault.LexFault.{LexFault}
use Rattle.dlk_lex.specs.declared.fault.LexFault.TheVariants as lex
use Rattle.dlk_lex.specs.declared.source.Origin.{Origin}
use Rattle.dlk_lex.specs.declared.source.Source.{Source}
use Rattle.dlk_lex.specs.Noted.{AreNoted}
use Rattle.dlk_lex.specs.Taken.{Gives, Refuses}
use Rattle.dlk_lex.specs.Sources.{HasTaken}
use Rattle.dlk_reader.specs.declared.stop.LexemeFault.{LexemeFault}
use Rattle.dlk_reader.specs.declared.stop.LexemeFault.TheVariants as step
use Rattle.dlk_reader.specs.declared.stop.Stop.{Stop}
use Rattle.dlk_reader.specs.declared.stop.Stop.TheVariants.{Memory, BadByte, Syntax}

-- something is read to the end of the lexemes, or they stop at a place among them
pub data Outcome (V : Type 0) : Type 0 where
  Whole : V → Outcome V
  Stopped : ℕ → Outcome V

-- the same, with one more lexeme in front
abbrev pub after_one : {V : Type 0} → Outcome V → Outcome V
after_one (Whole v) = Whole v
after_one (Stopped n) = Stopped (n + 1)

-- `comes r s o` says that from the reader r on the lexemes s come out as o.

-- What a step answers to a lexeme: a reader from which all comes out as from the first with the lexeme in front, or that the lexemes stop
-- there. Want of memory is free, here and below.
abbrev pub Steps : {R V : Type 0} → (R → List Lexeme → Outcome V → Type 0) → R → Lexeme → Result R LexemeFault → Type 0
Steps {R} {V} comes r k (Ok next) = (s : List Lexeme) (o : Outcome V) → comes next s o → comes r (k ∷ s) (after_one o)
Steps comes r k (Err step.Memory) = Unit {0}
Steps comes r k (Err step.Syntax) = (s : List Lexeme) → comes r (k ∷ s) (Stopped 0)

-- what a call that changes a reader answers, together with the reader that it leaves
abbrev pub leaving : {R : Type 0} → R → Result (Unit {0}) LexemeFault → Result R LexemeFault
leaving r (Ok done) = Ok r
leaving r (Err fault) = Err fault

-- what the end answers
abbrev pub Ends : {R V : Type 0} → (R → List Lexeme → Outcome V → Type 0) → R → Result V LexemeFault → Type 0
Ends comes r (Ok v) = comes r [] (Whole v)
Ends comes r (Err step.Memory) = Unit {0}
Ends comes r (Err step.Syntax) = comes r [] (Stopped 0)

-- a fault at the token that begins at this byte
abbrev pub stop_at : LexemeFault → ℕ → Stop
stop_at step.Memory at = Memory
stop_at step.Syntax at = Syntax at

-- what the end answers that is at this byte
abbrev pub EndsAt : {R V : Type 0} → (R → List Lexeme → Outcome V → Type 0) → R → ℕ → Result V Stop → Type 0
EndsAt comes r at (Ok v) = comes r [] (Whole v)
EndsAt comes r at (Err Memory) = Unit {0}
EndsAt comes r at (Err (BadByte byte)) = ⊥
EndsAt comes r at (Err (Syntax byte)) = (byte ≡ at) × comes r [] (Stopped 0)

-- what reading tokens answers: a stop has the byte of its token
abbrev pub ReadsTokens : {R V : Type 0} → (R → List Lexeme → Outcome V → Type 0) → R → List Token → Result V Stop → Type 0
ReadsTokens comes r tokens (Ok v) = comes r (lexemes tokens) (Whole v)
ReadsTokens comes r tokens (Err Memory) = Unit {0}
ReadsTokens comes r tokens (Err (BadByte at)) = ⊥
ReadsTokens comes r tokens (Err (Syntax at)) = (place : ℕ) × comes r (lexemes tokens) (Stopped place) × TokenAt tokens place at

-- all tokens of an origin have shown what is noted, and answer this
pub record OverAll {V : Type 0} (answers : List Token → Result V Stop → Type 0) (first : Origin) (s : Source) (result : Result V Stop) : Type 0 where
  pub tokens : List Token
  pub gives : Gives first tokens
  pub noted : AreNoted tokens s.noted
  pub answer : answers tokens result

-- What taking all tokens of an origin answers, where tokens answer so. The source is left behind the end.
abbrev pub ReadsAll : {V : Type 0} → (List Token → Result V Stop → Type 0) → Origin → Source → Result V Stop → Type 0
ReadsAll answers first s (Ok v) = OverAll answers first s (Ok v)
ReadsAll answers first s (Err Memory) = Unit {0}
ReadsAll answers first s (Err (BadByte at)) = Refuses first at
ReadsAll answers first s (Err (Syntax at)) = OverAll answers first s (Err (Syntax at))

-- some tokens were taken, and whatever is behind them, they answer this together
pub record OverSome {V : Type 0} (answers : List Token → Result V Stop → Type 0) (first : Origin) (s : Source) (result : Result V Stop) : Type 0 where
  pub taken : List Token
  pub has_taken : HasTaken first taken s
  pub answer : (behind : List Token) → Gives s.origin behind → answers (taken ++ behind) result

-- the same where a stop comes at once
abbrev pub ReadsUp : {V : Type 0} → (List Token → Result V Stop → Type 0) → Origin → Source → Result V Stop → Type 0
ReadsUp answers first s (Ok v) = OverSome answers first s (Ok v)
ReadsUp answers first s (Err Memory) = Unit {0}
ReadsUp answers first s (Err (BadByte at)) = Refuses first at
ReadsUp answers first s (Err (Syntax at)) = OverSome answers first s (Err (Syntax at))

-- a fault of the split as a stop
abbrev pub of_lex : LexFault → Stop
of_lex lex.Memory = Memory
of_lex (lex.BadByte at) = BadByte at
