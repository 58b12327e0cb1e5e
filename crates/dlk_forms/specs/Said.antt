-- What tokens say, as a code, and why they are not read. A form of text is given by its grammar and the phrases of its trees in order.
use Rattle.std.specs.Prelude.{◌≡◌, ℕ, List, map, flat_map, Result, IfOk, IfErr}
use Rattle.std.specs.Global.{Vec}
use Rattle.dlk_grammar.specs.declared.token.Token.{Token}
use Rattle.dlk_grammar.specs.declared.token.Dots.{Dots}
use Rattle.dlk_grammar.specs.declared.token.Dots.TheVariants.{Allowed, Refused}
use Rattle.dlk_grammar.specs.declared.token.Form.{Form}
use Rattle.dlk_grammar.specs.Lexemes.{Lexeme, lexemes}
use Rattle.dlk_grammar.specs.Phrases.{Phrase}
use Rattle.dlk_grammar.specs.Grammar.{Sides, Turned, ReadsSequent}
use Rattle.dlk_grammar.specs.Erased.{count}
use Rattle.dlk_grammar.specs.Readings.{Says, SpeaksAgainst, grammar, itself, both_sides}
use Rattle.dlk_grammar.specs.Readings.{Syntax as SyntaxFault}
use Rattle.dlk_grammar.specs.Substitutions.{PairPhrase, ReadsSubstitution, replacements}
use Rattle.dlk_grammar.specs.Extras.{ExtraPhrase, ReadsExtra, extra_replacements}
use Rattle.dlk_reader.specs.Codes.{postfix}
use Rattle.dlk_reader.specs.declared.code.Code.{Code}
use Rattle.dlk_reader.specs.declared.stop.Stop.{Stop}
use Rattle.dlk_reader.specs.declared.stop.Stop.TheVariants.{Memory, BadByte, Syntax}
use Rattle.dlk_forms.specs.declared.pairs.PairsCode.{PairsCode}
use Rattle.dlk_forms.specs.declared.extras.ExtraCode.{ExtraCode}
use Rattle.dlk_forms.specs.declared.sides.SidesCode.{SidesCode}

-- the tokens are a text of the form, and this is the code of what they say
pub record SaysCode {P : Type 0} (G : List Lexeme → P → Type 0) (parts : P → List Phrase) (d : Dots) (tokens : List Token) (code : List Code) : Type 0 where
  pub said : P
  pub says : Says d G (lexemes tokens) said
  pub code_is : code ≡ flat_map postfix (parts said)

-- how many formulas the left side has
abbrev pub left_count : Sides → ℕ
left_count (Turned l m) = count l

-- the tokens are a text of a sequent, of whose formulas this is the code
pub record SaysSides (tokens : List Token) (c : SidesCode) : Type 0 where
  pub said : Sides
  pub says : Says Refused ReadsSequent (lexemes tokens) said
  pub code_is : c.code.items ≡ flat_map postfix (both_sides said)
  pub left_is : c.left ≡ left_count said

-- the symbols of pairs, and the operators of their replacements
pub record IsCodeOfPairs (c : PairsCode) (l : List PairPhrase) : Type 0 where
  pub symbols : c.symbols.items ≡ map (λ p. p.sym) l
  pub code : c.code.items ≡ flat_map postfix (replacements l)

-- the tokens are a text of a substitution, and this is the code of its pairs
pub record SaysPairs (tokens : List Token) (c : PairsCode) : Type 0 where
  pub said : List PairPhrase
  pub says : Says Allowed ReadsSubstitution (lexemes tokens) said
  pub shown : IsCodeOfPairs c said

-- the renames, and the pairs behind them
pub record IsCodeOfExtra (c : ExtraCode) (e : ExtraPhrase) : Type 0 where
  pub renames : c.renames.items ≡ e.renames
  pub pairs : IsCodeOfPairs c.pairs e.pairs

-- the tokens are a text of renames and pairs, and this is their code
pub record SaysExtra (tokens : List Token) (c : ExtraCode) : Type 0 where
  pub said : ExtraPhrase
  pub says : Says Allowed ReadsExtra (lexemes tokens) said
  pub shown : IsCodeOfExtra c said

-- the tokens stop as a text of the form at the token of this byte; want of memory is free
abbrev pub IsStop : {P : Type 0} → (List Lexeme → P → Type 0) → (P → List Phrase) → Dots → List Token → Stop → Type 0
IsStop G parts d tokens (Syntax at) = SpeaksAgainst G parts d tokens (SyntaxFault at)
IsStop G parts d tokens Memory = Unit {0}
IsStop G parts d tokens (BadByte at) = ⊥

-- what reading answers to tokens: what they say, or where they stop as a text of the form
pub record Answers {P V : Type 0} (IsCode : List Token → V → Type 0) (G : List Lexeme → P → Type 0) (parts : P → List Phrase) (d : Dots)
    (tokens : List Token) (result : Result V Stop) : Type 0 where
  pub says : IfOk result (IsCode tokens)
  pub stops : IfErr result (IsStop G parts d tokens)

-- of a tree, a sequent, a substitution, and renames with pairs
abbrev pub AnswersTree : Form → Dots → List Token → Result (Vec Code) Stop → Type 0
AnswersTree form d = Answers (λ tokens v. SaysCode (grammar form) itself d tokens v.items) (grammar form) itself d

abbrev pub AnswersSides : List Token → Result SidesCode Stop → Type 0
AnswersSides = Answers SaysSides ReadsSequent both_sides Refused

abbrev pub AnswersPairs : List Token → Result PairsCode Stop → Type 0
AnswersPairs = Answers SaysPairs ReadsSubstitution replacements Allowed

abbrev pub AnswersExtra : List Token → Result ExtraCode Stop → Type 0
AnswersExtra = Answers SaysExtra ReadsExtra extra_replacements Allowed
