-- What a literal is, and the token that it is.
use Rattle.std.specs.Prelude.{ℕ, ◌+◌, nat_le, List, ◌++◌, length, codes, IsTrue, if◌then◌else◌}
use Rattle.dlk_grammar.specs.declared.token.TokenKind.{TokenKind}
use Rattle.dlk_grammar.specs.declared.token.TokenKind.TheVariants.{Number, LongNumber}
use Rattle.dlk_grammar.specs.Tokens.{are_digits, literal_number}

-- digits, or digits, a point and digits
pub data IsLiteral : List ℕ → Type 0 where
  whole : (s : List ℕ) → IsTrue (are_digits s) → IsLiteral s
  pointed : (s f : List ℕ) → IsTrue (are_digits s) → IsTrue (are_digits f) → IsLiteral (s ++ (codes "." ++ f))

-- the token of a literal, which is long where it has more than 38 digits as written
abbrev pub literal_kind : List ℕ → List ℕ → TokenKind
literal_kind integer fraction =
    if nat_le (length integer + length fraction) 38 then Number (literal_number integer fraction) else LongNumber
