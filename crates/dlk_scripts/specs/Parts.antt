-- The parts of a text of a strategy, and how bytes are spelled.
use Rattle.std.specs.Prelude.{◌≡◌, ℕ, ◌+◌, ◌≤◌, ◌==◌, ◌&&◌, ◌||◌, Bool, true, false, not, IsTrue, List, [], ◌∷◌, ◌++◌, length, codes}
use Rattle.std.specs.List.{list_all}
use Rattle.dlk_tree.specs.Names.{is_name}
use Rattle.dlk_grammar.specs.Tokens.{is_space, are_digits, value}
use Rattle.dlk_scripts.specs.declared.part.Part.{Part}
use Rattle.dlk_scripts.specs.declared.part.PartKind.{PartKind}
use Rattle.dlk_scripts.specs.declared.part.PartKind.TheVariants.{Open, Close, Fork, Semicolon, Bar, Comma, Star, Minus, Point, AnyLeft, AnyRight}
use Rattle.dlk_scripts.specs.declared.part.PartKind.TheVariants.{Name, Number, Quoted}

-- the part whose first byte is at this place
abbrev pub part : ℕ → PartKind → Part
part at kind = record { kind = kind; at = at }

abbrev pub is_no_quote : ℕ → Bool
is_no_quote b = not (b == 34)

-- a number has at most so many digits
abbrev pub most_digits : ℕ
most_digits = 9

-- Spells s kind: the bytes s are a part of this kind.
pub data Spells : List ℕ → PartKind → Type 0 where
  open_bracket : Spells (codes "(") Open
  close_bracket : Spells (codes ")") Close
  fork : Spells (codes "<(") Fork
  semicolon : Spells (codes ";") Semicolon
  bar : Spells (codes "|") Bar
  comma : Spells (codes ",") Comma
  star : Spells (codes "*") Star
  minus : Spells (codes "-") Minus
  point : Spells (codes ".") Point
  any_left : Spells (codes "'L") AnyLeft
  any_right : Spells (codes "'R") AnyRight
  -- a letter, then letters, digits and underscores, but not `true` or `false`
  name : (s : List ℕ) → IsTrue (is_name s) → Spells s (Name s)
  -- one to nine digits
  number : (s : List ℕ) → IsTrue (are_digits s) → length s ≤ most_digits → Spells s (Number (value s))
  -- any bytes but the quote, between quotes
  string : (s : List ℕ) → IsTrue (list_all is_no_quote s) → Spells (34 ∷ s ++ 34 ∷ []) (Quoted s)

-- the bytes begin with a slash
abbrev pub slash_first : List ℕ → Bool
slash_first [] = false
slash_first (b ∷ s) = b == 47

-- `*/` stands somewhere in the bytes
abbrev pub holds_end : List ℕ → Bool
holds_end [] = false
holds_end (b ∷ s) = (b == 42 && slash_first s) || holds_end s

-- A comment: `/*`, then bytes in which no `*/` stands, then `*/`.
pub data IsComment : List ℕ → Type 0 where
  comment : (inside : List ℕ) → holds_end inside ≡ false → IsComment (47 ∷ 42 ∷ inside ++ 42 ∷ 47 ∷ [])

-- Spelled bytes parts: the bytes are these parts, with white space and comments before, between and behind them.
pub data Spelled : List ℕ → List Part → Type 0 where
  nothing : Spelled [] []
  then_space : {s : List ℕ} {ps : List Part} (b : ℕ) → Spelled s ps → is_space b ≡ true → Spelled (s ++ b ∷ []) ps
  then_comment : {s : List ℕ} {ps : List Part} (c : List ℕ) → Spelled s ps → IsComment c → Spelled (s ++ c) ps
  then_part : {s : List ℕ} {ps : List Part} (p : List ℕ) (kind : PartKind) → Spelled s ps → Spells p kind →
      Spelled (s ++ p) (ps ++ part (length s) kind ∷ [])

-- RiseTo least ps end: the places of the parts rise, from the least on and below the end.
abbrev pub RiseTo : ℕ → List Part → ℕ → Type 0
RiseTo least [] end = least ≤ end
RiseTo least (p ∷ ps) end = (least ≤ p.at) × RiseTo (p.at + 1) ps end
