-- Parts of a text.
use Rattle.std.specs.Prelude.{◌≡◌, ℕ, List, [], ◌∷◌, ◌++◌}
use Rattle.dlk_lines.specs.Parts.{Lacks}

-- nothing, or a text that begins with a space
abbrev pub IsBehind : List ℕ → Type 0
IsBehind [] = Unit {0}
IsBehind (c ∷ text) = c ≡ 32

-- the text up to the first space, and what is left from that space on
pub record Front (text front rest : List ℕ) : Type 0 where
  pub text_is : text ≡ front ++ rest
  pub first : Lacks front 32
  pub behind : IsBehind rest
