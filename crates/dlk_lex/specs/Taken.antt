-- Tokens that are taken one by one from bytes, or from tokens.
use Rattle.std.specs.Prelude.{◌≡◌, ◌≢◌, ℕ, ◌-◌, ◌<◌, ◌≤◌, List, [], ◌∷◌, ◌++◌, length, drop, slice_index, IsTrue}
use Rattle.dlk_grammar.specs.declared.token.Token.{Token}
use Rattle.dlk_grammar.specs.declared.token.TokenKind.TheVariants.{End}
use Rattle.dlk_tree.specs.Names.{is_letter}
use Rattle.dlk_grammar.specs.RealTokens.{AreTokens}
use Rattle.dlk_grammar.specs.Splits.{Splits, BadAt}
use Rattle.dlk_lex.specs.declared.source.Origin.{Origin}
use Rattle.dlk_lex.specs.declared.source.Origin.TheVariants.{Bytes, Tokens}

-- The bytes between two places are these tokens: with what the bytes behind split into they are what all split into.
pub record SplitsUpTo (bytes : List ℕ) (from to : ℕ) (tokens : List Token) : Type 0 where
  pub within : to ≤ length bytes
  pub forward : from ≤ to
  pub found : (ts : List Token) → Splits to (drop to bytes) ts → Splits from (drop from bytes) (tokens ++ ts)
  pub bad : (b : ℕ) → BadAt to (drop to bytes) b → BadAt from (drop from bytes) b

-- the first token from a place on, or the end
pub data IsFirst (bytes : List ℕ) (from : ℕ) (t : Token) : Type 0 where
  first_one : t.kind ≢ End → from < t.end → SplitsUpTo bytes from t.end (t ∷ []) → IsFirst bytes from t
  none_left : t.kind ≡ End → SplitsUpTo bytes from t.end [] → Splits t.end (drop t.end bytes) (t ∷ []) → IsFirst bytes from t

-- from a place on only spaces and comments stand before a letter: a word comes first
pub record BeginsWord (bytes : List ℕ) (from : ℕ) : Type 0 where
  pub at : ℕ
  pub gap : SplitsUpTo bytes from at []
  pub letter : IsTrue (is_letter (slice_index (drop at bytes) 0))

-- a place within bytes, or the tokens of a text
abbrev pub IsOrigin : Origin → Type 0
IsOrigin (Bytes bytes at) = at ≤ length bytes.now
IsOrigin (Tokens tokens) = AreTokens tokens.now

-- Gives origin tokens: all that can be taken are these tokens, of which the end is the last.
abbrev pub Gives : Origin → List Token → Type 0
Gives (Bytes bytes at) ts = Splits at (drop at bytes.now) ts
Gives (Tokens tokens) ts = ts ≡ tokens.now

-- Refuses origin bad: the split comes to the place bad, where no token, space or whole comment begins.
abbrev pub Refuses : Origin → ℕ → Type 0
Refuses (Bytes bytes at) bad = BadAt at (drop at bytes.now) bad
Refuses (Tokens tokens) bad = ⊥

-- what comes next takes memory: a word, or any token that is copied
abbrev pub WantsMemory : Origin → Type 0
WantsMemory (Bytes bytes at) = BeginsWord bytes.now at
WantsMemory (Tokens tokens) = Unit {0}

-- how many bytes or tokens are left
abbrev pub left_of : Origin → ℕ
left_of (Bytes bytes at) = length bytes.now - at
left_of (Tokens tokens) = length tokens.now

-- Between two states of an origin these tokens were taken.
pub record Passes (old : Origin) (taken : List Token) (new : Origin) : Type 0 where
  pub is_origin : IsOrigin new
  pub gives : (ts : List Token) → Gives new ts → Gives old (taken ++ ts)
  pub refuses : (bad : ℕ) → Refuses new bad → Refuses old bad

-- the next token, or the end
pub data IsNext (old : Origin) (t : Token) (new : Origin) : Type 0 where
  next_one : t.kind ≢ End → left_of new < left_of old → Passes old (t ∷ []) new → IsNext old t new
  at_end : t.kind ≡ End → Passes old [] new → Gives new (t ∷ []) → IsNext old t new
