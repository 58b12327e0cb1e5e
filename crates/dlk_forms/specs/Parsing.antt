-- What comes of reading on where a reader shows a machine's state: what comes of parsing on from it.
use Rattle.std.specs.Prelude.{◌≡◌, ℕ, List, Result, Ok, Err}
use Rattle.dlk_grammar.specs.declared.token.Dots.{Dots}
use Rattle.dlk_grammar.specs.declared.token.Token.{Token}
use Rattle.dlk_grammar.specs.Lexemes.{Lexeme, lexemes}
use Rattle.dlk_grammar.specs.Readings.{TokenAt}
use Rattle.dlk_machine.specs.Parse.{Machine, parse_from, parse}
use Rattle.dlk_reader.specs.Outcomes.{Outcome, Whole, Stopped}
use Rattle.dlk_reader.specs.declared.stop.Stop.{Stop}
use Rattle.dlk_reader.specs.declared.stop.Stop.TheVariants.{Memory, BadByte, Syntax}

-- a value is the code of what was parsed
pub record IsParsed {T V : Type 0} (is_code : V → T → Type 0) (v : V) (r : Result T ℕ) : Type 0 where
  pub said : T
  pub parsed : r ≡ Ok said
  pub code : is_code v said

-- From a machine's state the lexemes come out so.
abbrev pub Gives : {X T V : Type 0} → Dots → Machine X T → X → List Lexeme → (V → T → Type 0) → Outcome V → Type 0
Gives d m x s is_code (Whole v) = IsParsed is_code v (parse_from d m x 0 s)
Gives d m x s is_code (Stopped place) = parse_from d m x 0 s ≡ Err place

-- From a reader on the lexemes come out as from each state that it shows.
abbrev pub Comes : {R X T V : Type 0} → Dots → Machine X T → (R → X → Type 0) → (V → T → Type 0) → R → List Lexeme → Outcome V → Type 0
Comes {X = X} d m shows is_code r s o = (x : X) → shows r x → Gives d m x s is_code o

-- What reading tokens answers is what parsing them gives; want of memory is free.
abbrev pub ReadsAs : {X T V : Type 0} → Dots → Machine X T → (V → T → Type 0) → List Token → Result V Stop → Type 0
ReadsAs d m is_code tokens (Ok v) = IsParsed is_code v (parse d m (lexemes tokens))
ReadsAs d m is_code tokens (Err Memory) = Unit {0}
ReadsAs d m is_code tokens (Err (BadByte at)) = ⊥
ReadsAs d m is_code tokens (Err (Syntax at)) = (place : ℕ) × (parse d m (lexemes tokens) ≡ Err place) × TokenAt tokens place at
