-- What is at the front of bytes.
use Rattle.std.specs.Prelude.{◌≡◌, ℕ, ◌+◌, ◌<◌, ◌≤◌, ◌==◌, Bool, not, List, [], ◌∷◌, ◌++◌, length, take, drop, slice_index, if◌then◌else◌}
use Rattle.std.specs.List.{filter, prefix_len}
use Rattle.dlk_grammar.specs.declared.token.Mark.{Mark}
use Rattle.dlk_grammar.specs.declared.token.TokenKind.{TokenKind}
use Rattle.dlk_grammar.specs.Tokens.{is_digit, spelling}
use Rattle.dlk_grammar.specs.Marks.{marks}
use Rattle.dlk_grammar.specs.Splits.{Longest}
use Rattle.dlk_grammar.specs.Fronts.{Piece as FrontPiece, AtFront}
use Rattle.dlk_lex.specs.declared.front.Piece.{Piece}
use Rattle.dlk_lex.specs.declared.front.Piece.TheVariants.{Comment, Token, Nothing}

-- the marks that begin with a byte, longer ones before shorter ones
abbrev pub marks_from : ℕ → List Mark
marks_from first = filter (λ m. slice_index (spelling m) 0 == first) marks

-- the mark is at the front, and no longer one is
pub record IsFrontMark (bytes : List ℕ) (m : Mark) : Type 0 where
  pub rest : List ℕ
  pub front : bytes ≡ spelling m ++ rest
  pub longest : (other : Mark) (after : List ℕ) → bytes ≡ spelling other ++ after → length (spelling other) ≤ length (spelling m)

-- no mark is at the front
abbrev pub HasNoMark : List ℕ → Type 0
HasNoMark bytes = (m : Mark) (after : List ℕ) → ¬ (bytes ≡ spelling m ++ after)

-- how many digits stand behind a point at the front
abbrev pub fraction_len : List ℕ → ℕ
fraction_len [] = 0
fraction_len (b ∷ bs) = if b == 46 then prefix_len is_digit bs else 0

-- the first `*/` stands behind n bytes
pub record EndsBlock (bytes : List ℕ) (n : ℕ) : Type 0 where
  pub within : n + 1 < length bytes
  pub star : slice_index bytes n ≡ 42
  pub slash : slice_index bytes (n + 1) ≡ 47
  pub first : (k : ℕ) → k < n → slice_index bytes k ≡ 42 → ¬ (slice_index bytes (k + 1) ≡ 47)

-- there is no `*/`
abbrev pub HasNoEnd : List ℕ → Type 0
HasNoEnd bytes = (k : ℕ) → k + 1 < length bytes → slice_index bytes k ≡ 42 → ¬ (slice_index bytes (k + 1) ≡ 47)

-- a token of this many bytes is the longest at the front
pub record StandsInFront (bytes : List ℕ) (found : TokenKind × ℕ) : Type 0 where
  pub within : found.1 ≤ length bytes
  pub is : Longest bytes (take found.1 bytes) found.0

-- no token is at the front
abbrev pub HasNoToken : List ℕ → Type 0
HasNoToken bytes = (s : List ℕ) (k : TokenKind) → ¬ Longest bytes s k

-- the longest token at the front, or that there is none
abbrev pub IsToken : List ℕ → Piece → Type 0
IsToken bytes (Comment n) = ⊥
IsToken bytes (Token kind n) = StandsInFront bytes (kind, n)
IsToken bytes Nothing = HasNoToken bytes

-- no line feed
abbrev pub is_no_feed : ℕ → Bool
is_no_feed b = not (b == 10)

-- what is at the front, of so many bytes
abbrev pub IsPiece : List ℕ → Piece → Type 0
IsPiece bytes (Comment n) = (n ≤ length bytes) × AtFront bytes (FrontPiece.Gap n (drop n bytes))
IsPiece bytes (Token kind n) = (n ≤ length bytes) × AtFront bytes (FrontPiece.One (take n bytes) kind (drop n bytes))
IsPiece bytes Nothing = AtFront bytes FrontPiece.Bad
