-- What is at the front of bytes.
use Rattle.std.specs.Prelude.{◌≡◌, ℕ, true, List, [], ◌∷◌, ◌++◌, length}
use Rattle.dlk_grammar.specs.declared.token.TokenKind.{TokenKind}
use Rattle.dlk_grammar.specs.Tokens.{is_space}
use Rattle.dlk_grammar.specs.Splits.{Longest, BeginsComment, IsComment, BeginsNothing}

pub data Piece : Type 0 where
  -- nothing: the bytes have ended
  Ended : Piece
  -- a space or a comment of so many bytes, and the rest behind it
  Gap : ℕ → List ℕ → Piece
  -- a token, by its bytes and its kind, and the rest behind it
  One : List ℕ → TokenKind → List ℕ → Piece
  -- no token, space or whole comment
  Bad : Piece

-- AtFront bytes piece: the piece is at the front of the bytes.
pub data AtFront (bytes : List ℕ) : Piece → Type 0 where
  front-ended : bytes ≡ [] → AtFront bytes Ended
  front-space : (b : ℕ) (rest : List ℕ) → bytes ≡ b ∷ rest → is_space b ≡ true → AtFront bytes (Gap 1 rest)
  front-comment : (s rest : List ℕ) → IsComment bytes s rest → AtFront bytes (Gap (length s) rest)
  front-one : (s rest : List ℕ) (kind : TokenKind) → bytes ≡ s ++ rest → ¬ BeginsComment bytes → Longest bytes s kind →
      AtFront bytes (One s kind rest)
  front-bad : (b : ℕ) (rest : List ℕ) → BeginsNothing bytes b rest → AtFront bytes Bad
