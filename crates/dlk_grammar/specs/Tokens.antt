-- What a token is, by its spelling.
use Rattle.std.specs.Prelude.{ℕ, ◌+◌, ◌-◌, ◌*◌, ◌≤◌, ◌<◌, ◌==◌, ◌&&◌, ◌||◌, Bool, false, if◌then◌else◌, IsTrue, List, [], ◌∷◌, ◌++◌, length, fold, codes}
use Rattle.std.specs.List.{list_all}
use Rattle.dlk_tree.specs.Names.{is_between, is_name}
use Rattle.dlk_tree.specs.declared.op.Num.{Num}
use Rattle.dlk_grammar.specs.declared.token.Mark.{Mark}
use Rattle.dlk_grammar.specs.declared.token.Mark.TheVariants as mark
use Rattle.dlk_grammar.specs.declared.token.TokenKind.{TokenKind}
use Rattle.dlk_grammar.specs.declared.token.TokenKind.TheVariants.{Word, True, False, Number, LongNumber, Dot, Hole, Mark as AMark}

-- space, tab, carriage return and line feed separate tokens
abbrev pub is_space : ℕ → Bool
is_space b = b == 32 || b == 9 || b == 13 || b == 10

abbrev pub is_digit : ℕ → Bool
is_digit b = is_between 48 57 b

-- one digit or more
abbrev pub are_digits : List ℕ → Bool
are_digits [] = false
are_digits (b ∷ bs) = is_digit b && list_all is_digit bs

-- the number that digits say
abbrev pub value : List ℕ → ℕ
value digits = fold (λ n b. 10 * n + (b - 48)) 0 digits

-- a digit before digits, which isn't kept where it is a zero with nothing behind it
abbrev pub before_digits : ℕ → List ℕ → List ℕ
before_digits d [] = if d == 48 then [] else d ∷ []
before_digits d (e ∷ es) = d ∷ e ∷ es

-- the digits of a fraction without the zeros at its end
abbrev pub trimmed : List ℕ → List ℕ
trimmed [] = []
trimmed (d ∷ ds) = before_digits d (trimmed ds)

-- The number that a literal says, by the digits before and behind its point: zeros in front count for nothing, nor do
-- those at the end of the fraction.
abbrev pub literal_number : List ℕ → List ℕ → Num
literal_number integer fraction = record { digits = value (integer ++ trimmed fraction); scale = length (trimmed fraction) }

-- the spelling of each mark
abbrev pub spelling : Mark → List ℕ
spelling mark.Forall = codes "\\forall"
spelling mark.Exists = codes "\\exists"
spelling mark.Invariant = codes "@invariant"
spelling mark.RoundBars = codes "(||)"
spelling mark.RoundBar = codes "(|"
spelling mark.BarRound = codes "|)"
spelling mark.BraceBar = codes "{|"
spelling mark.BarBrace = codes "|}"
spelling mark.OpenRound = codes "("
spelling mark.CloseRound = codes ")"
spelling mark.OpenSquare = codes "["
spelling mark.CloseSquare = codes "]"
spelling mark.OpenBrace = codes "{"
spelling mark.CloseBrace = codes "}"
spelling mark.Equiv = codes "<->"
spelling mark.Imply = codes "->"
spelling mark.And = codes "&"
spelling mark.Or = codes "|"
spelling mark.Not = codes "!"
spelling mark.Turnstile = codes "==>"
spelling mark.Equal = codes "="
spelling mark.NotEqual = codes "!="
spelling mark.AtLeast = codes ">="
spelling mark.Greater = codes ">"
spelling mark.AtMost = codes "<="
spelling mark.Less = codes "<"
spelling mark.Plus = codes "+"
spelling mark.Minus = codes "-"
spelling mark.Star = codes "*"
spelling mark.Slash = codes "/"
spelling mark.Caret = codes "^"
spelling mark.Prime = codes "'"
spelling mark.Gets = codes ":="
spelling mark.Choice = codes "++"
spelling mark.Query = codes "?"
spelling mark.Semicolon = codes ";"
spelling mark.Comma = codes ","
spelling mark.Becomes = codes "~>"
spelling mark.Swaps = codes "~~"

-- Spells s kind: the bytes s are a token of this kind.
pub data Spells : List ℕ → TokenKind → Type 0 where
  word : (s : List ℕ) → IsTrue (is_name s) → Spells s (Word s)
  true_word : Spells (codes "true") True
  false_word : Spells (codes "false") False
  -- digits, or digits, a point and digits: a literal of at most 38 digits as written
  integer : (s : List ℕ) → IsTrue (are_digits s) → length s ≤ 38 → Spells s (Number (literal_number s []))
  decimal : (s f : List ℕ) → IsTrue (are_digits s) → IsTrue (are_digits f) → length s + length f ≤ 38 →
      Spells (s ++ (codes "." ++ f)) (Number (literal_number s f))
  long_integer : (s : List ℕ) → IsTrue (are_digits s) → 38 < length s → Spells s LongNumber
  long_decimal : (s f : List ℕ) → IsTrue (are_digits s) → IsTrue (are_digits f) → 38 < length s + length f →
      Spells (s ++ (codes "." ++ f)) LongNumber
  -- a dot is ._0 to ._7
  dot : (n : ℕ) → n < 8 → Spells (codes "._" ++ (48 + n) ∷ []) (Dot n)
  hole : Spells (codes "_") Hole
  a_mark : (m : Mark) → Spells (spelling m) (AMark m)
