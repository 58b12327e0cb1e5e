-- What is known of a source when tokens were taken from it.
use Rattle.std.specs.Prelude.{◌≡◌, ◌≢◌, ℕ, ◌<◌, List, [], ◌∷◌, ◌++◌, Result, Ok, Err}
use Rattle.dlk_grammar.specs.declared.token.Token.{Token}
use Rattle.dlk_grammar.specs.declared.token.TokenKind.TheVariants.{End}
use Rattle.dlk_lex.specs.declared.fault.LexFault.{LexFault}
use Rattle.dlk_lex.specs.declared.fault.LexFault.TheVariants.{Memory, BadByte}
use Rattle.dlk_lex.specs.declared.source.Origin.{Origin}
use Rattle.dlk_lex.specs.declared.source.Source.{Source}
use Rattle.dlk_lex.specs.Noted.{AreNoted}
use Rattle.dlk_lex.specs.Taken.{Gives, Refuses, Passes, left_of}

-- these tokens were taken from the origin, and have shown what is noted
pub record HasTaken (first : Origin) (taken : List Token) (s : Source) : Type 0 where
  pub passes : Passes first taken s.origin
  pub noted : AreNoted taken s.noted

-- how much is left
abbrev pub left_in : Source → ℕ
left_in s = left_of s.origin

-- one more token was taken, or the end is next
pub data TakesOne (first : Origin) (taken : List Token) (old : Source) (t : Token) (new : Source) : Type 0 where
  one_more : t.kind ≢ End → left_in new < left_in old → HasTaken first (taken ++ t ∷ []) new → TakesOne first taken old t new
  no_more : t.kind ≡ End → HasTaken first taken new → Gives new.origin (t ∷ []) → TakesOne first taken old t new

-- what the next token answers; want of memory is free
abbrev pub Takes : Origin → List Token → Source → Result Token LexFault → Source → Type 0
Takes first taken old (Ok t) new = TakesOne first taken old t new
Takes first taken old (Err (BadByte at)) new = Refuses first at
Takes first taken old (Err Memory) new = Unit {0}

-- all tokens of the origin, of which some were taken before, have shown what is noted
pub record HasFinished (first : Origin) (taken : List Token) (old new : Source) : Type 0 where
  pub behind : List Token
  pub left : Gives old.origin behind
  pub noted : AreNoted (taken ++ behind) new.noted

-- what taking all that is left answers
abbrev pub Finishes : Origin → List Token → Source → Result (Unit {0}) LexFault → Source → Type 0
Finishes first taken old (Ok done) new = HasFinished first taken old new
Finishes first taken old (Err (BadByte at)) new = Refuses first at
Finishes first taken old (Err Memory) new = Unit {0}
