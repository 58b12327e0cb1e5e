-- Which lines of nodes want memory. Each other one is refused before any is taken.
use Rattle.std.specs.Prelude.{◌≡◌, List, ℕ, ◌++◌, codes}
use Rattle.dlk_lines.specs.Parts.{NumberThen}

-- the word of a node's line, a number, and whatever comes then
pub record NodeLineWants (line : List ℕ) : Type 0 where
  pub text : List ℕ
  pub number : ℕ
  pub rest : List ℕ
  pub line_is : line ≡ codes "node " ++ text
  pub number_is : NumberThen text 32 number rest
