-- What a text says, as a code. A form of text is given by its grammar and the phrases of its trees in order.
use Rattle.std.specs.Prelude.{◌≡◌, ℕ, ◌<◌, List, length, flat_map, Some}
use Rattle.dlk_grammar.specs.declared.token.Token.{Token}
use Rattle.dlk_grammar.specs.declared.token.Dots.{Dots}
use Rattle.dlk_grammar.specs.declared.token.Dots.TheVariants.{Allowed, Refused}
use Rattle.dlk_grammar.specs.Lexemes.{Lexeme, lexemes}
use Rattle.dlk_grammar.specs.Phrases.{Phrase}
use Rattle.dlk_grammar.specs.Grammar.{Sides, ReadsSequent}
use Rattle.dlk_grammar.specs.Erased.{ills, lowest}
use Rattle.dlk_grammar.specs.Readings.{Says, ReadFault, SpeaksAgainst, both_sides}
use Rattle.dlk_grammar.specs.Substitutions.{PairPhrase, replacements, ReadsSubstitution}
use Rattle.dlk_grammar.specs.Extras.{ExtraPhrase, extra_replacements, ReadsExtra}
use Rattle.dlk_reader.specs.Codes.{postfix}
use Rattle.dlk_reader.specs.declared.code.Code.{Code}
use Rattle.dlk_forms.specs.Said.{left_count, IsCodeOfPairs, IsCodeOfExtra}
use Rattle.dlk_forms.specs.declared.pairs.PairsCode.{PairsCode}
use Rattle.dlk_forms.specs.declared.extras.ExtraCode.{ExtraCode}
use Rattle.dlk_forms.specs.declared.sides.SidesCode.{SidesCode}
use Rattle.dlk_parse.specs.Limits.{AreWithin, IsBeyond}
use Rattle.dlk_parse.specs.declared.fault.ParseFault.{ParseFault}

-- the tokens are a text of the form, of which this is the code, and nothing speaks against it
pub record IsReadCode {P : Type 0} (G : List Lexeme → P → Type 0) (parts : P → List Phrase) (d : Dots) (tokens : List Token) (code : List Code) : Type 0 where
  pub said : P
  pub says : Says d G (lexemes tokens) said
  pub code_is : code ≡ flat_map postfix (parts said)
  pub no_fault : (why : ReadFault) → ¬ SpeaksAgainst G parts d tokens why

-- a code of phrases whose places of ill shape are places of tokens
pub record HasPlaces (code : List Code) (starts : List ℕ) : Type 0 where
  pub phrases : List Phrase
  pub code_is : code ≡ flat_map postfix phrases
  pub below : (place : ℕ) → lowest (flat_map ills phrases) ≡ Some place → place < length starts

-- wherever the code is that of phrases, they are within the limits
pub record IsWithin (code : List Code) : Type 0 where
  pub of_phrases : (ps : List Phrase) → code ≡ flat_map postfix ps → AreWithin ps

-- or beyond them
pub record IsCodeBeyond (code : List Code) (starts : List ℕ) (why : ParseFault) : Type 0 where
  pub of_phrases : (ps : List Phrase) → code ≡ flat_map postfix ps → IsBeyond ps starts why

-- the same of a sequent
pub record AreReadSides (tokens : List Token) (s : SidesCode) : Type 0 where
  pub said : Sides
  pub says : Says Refused ReadsSequent (lexemes tokens) said
  pub code_is : s.code.items ≡ flat_map postfix (both_sides said)
  pub left_is : s.left ≡ left_count said
  pub no_fault : (why : ReadFault) → ¬ SpeaksAgainst ReadsSequent both_sides Refused tokens why

-- the same of a substitution
pub record AreReadPairs (tokens : List Token) (c : PairsCode) : Type 0 where
  pub said : List PairPhrase
  pub says : Says Allowed ReadsSubstitution (lexemes tokens) said
  pub shown : IsCodeOfPairs c said
  pub no_fault : (why : ReadFault) → ¬ SpeaksAgainst ReadsSubstitution replacements Allowed tokens why

-- the same of renames and pairs
pub record IsReadExtra (tokens : List Token) (c : ExtraCode) : Type 0 where
  pub said : ExtraPhrase
  pub says : Says Allowed ReadsExtra (lexemes tokens) said
  pub shown : IsCodeOfExtra c said
  pub no_fault : (why : ReadFault) → ¬ SpeaksAgainst ReadsExtra extra_replacements Allowed tokens why
