-- The split of bytes into tokens.
use Rattle.std.specs.Prelude.{◌≡◌, ◌≢◌, ℕ, ◌+◌, ◌≤◌, true, false, List, [], ◌∷◌, ◌++◌, length, codes}
use Rattle.dlk_grammar.specs.declared.token.Token.{Token}
use Rattle.dlk_grammar.specs.declared.token.TokenKind.{TokenKind}
use Rattle.dlk_grammar.specs.declared.token.TokenKind.TheVariants.{End}
use Rattle.dlk_grammar.specs.Tokens.{is_space, Spells}

-- s is the longest token at the front of the bytes
pub record Longest (bytes s : List ℕ) (kind : TokenKind) : Type 0 where
  pub rest : List ℕ
  pub front : bytes ≡ s ++ rest
  pub spells : Spells s kind
  pub longest : (longer after : List ℕ) (other : TokenKind) → bytes ≡ longer ++ after → Spells longer other → length longer ≤ length s

-- a comment begins at the front of the bytes: `/*` or `//`
pub data BeginsComment : List ℕ → Type 0 where
  block : (rest : List ℕ) → BeginsComment (codes "/*" ++ rest)
  line : (rest : List ℕ) → BeginsComment (codes "//" ++ rest)

-- the bytes begin with a line feed, or there are none
pub data EndsLine : List ℕ → Type 0 where
  at_end : EndsLine []
  at_feed : (rest : List ℕ) → EndsLine (10 ∷ rest)

-- IsComment bytes s rest: the comment s is at the front of the bytes, and the rest behind it.
pub data IsComment (bytes : List ℕ) : List ℕ → List ℕ → Type 0 where
  -- `/*` up to the next `*/`
  block : (inside rest : List ℕ) → bytes ≡ codes "/*" ++ (inside ++ (codes "*/" ++ rest)) →
      ((sooner after : List ℕ) → inside ++ codes "*" ≢ sooner ++ (codes "*/" ++ after)) → IsComment bytes (codes "/*" ++ (inside ++ codes "*/")) rest
  -- `//` up to the line feed or the end
  line : (inside rest : List ℕ) → bytes ≡ codes "//" ++ (inside ++ rest) → ((sooner after : List ℕ) → inside ≢ sooner ++ 10 ∷ after) → EndsLine rest →
      IsComment bytes (codes "//" ++ inside) rest

abbrev pub token : TokenKind → ℕ → ℕ → Token
token kind at end = record { kind = kind; at = at; end = end }

-- Splits at bytes tokens: the bytes, of which the first is at this place, are these tokens, with the end. Spaces and
-- comments separate tokens, and at each place the longest token is taken.
pub data Splits : ℕ → List ℕ → List Token → Type 0 where
  ended : {at : ℕ} {bytes : List ℕ} → bytes ≡ [] → Splits at bytes (token End at at ∷ [])
  space : {at : ℕ} {bytes : List ℕ} {ts : List Token} (b : ℕ) (rest : List ℕ) → bytes ≡ b ∷ rest → is_space b ≡ true →
      Splits (at + 1) rest ts → Splits at bytes ts
  comment : {at : ℕ} {bytes : List ℕ} {ts : List Token} (s rest : List ℕ) → IsComment bytes s rest →
      Splits (at + length s) rest ts → Splits at bytes ts
  one : {at : ℕ} {bytes : List ℕ} {ts : List Token} (s rest : List ℕ) (kind : TokenKind) → bytes ≡ s ++ rest →
      ¬ BeginsComment bytes → Longest bytes s kind → Splits (at + length s) rest ts → Splits at bytes (token kind at (at + length s) ∷ ts)

-- no token, space or whole comment begins at the front of these bytes, of which the first is b
pub record BeginsNothing (bytes : List ℕ) (b : ℕ) (rest : List ℕ) : Type 0 where
  pub bytes_are : bytes ≡ b ∷ rest
  pub no_space : is_space b ≡ false
  pub no_comment : (s after : List ℕ) → ¬ IsComment bytes s after
  pub no_token : (s : List ℕ) (kind : TokenKind) → Longest bytes s kind → BeginsComment bytes

-- BadAt at bytes bad: the split comes to the place bad, where no token, space or whole comment begins.
pub data BadAt : ℕ → List ℕ → ℕ → Type 0 where
  here : {at : ℕ} {bytes : List ℕ} (b : ℕ) (rest : List ℕ) → BeginsNothing bytes b rest → BadAt at bytes at
  after_space : {at bad : ℕ} {bytes : List ℕ} (b : ℕ) (rest : List ℕ) → bytes ≡ b ∷ rest → is_space b ≡ true →
      BadAt (at + 1) rest bad → BadAt at bytes bad
  after_comment : {at bad : ℕ} {bytes : List ℕ} (s rest : List ℕ) → IsComment bytes s rest → BadAt (at + length s) rest bad → BadAt at bytes bad
  after_one : {at bad : ℕ} {bytes : List ℕ} (s rest : List ℕ) (kind : TokenKind) → bytes ≡ s ++ rest →
      ¬ BeginsComment bytes → Longest bytes s kind → BadAt (at + length s) rest bad → BadAt at bytes bad
