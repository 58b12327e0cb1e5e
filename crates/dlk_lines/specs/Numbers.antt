-- Numbers of a line.
use Rattle.std.specs.Prelude.{ℕ, ◌≤◌, IsTrue, List, ◌∷◌, length}
use Rattle.std.specs.List.{list_all}
use Rattle.dlk_tree.specs.Names.{is_between}
use Rattle.dlk_grammar.specs.Tokens.{is_digit, value}

-- IsNumber text n: 1 to 9 digits, of which the first isn't 0, and what they say
pub data IsNumber : List ℕ → ℕ → Type 0 where
  number : (first : ℕ) (others : List ℕ) → IsTrue (is_between 49 57 first) → IsTrue (list_all is_digit others) → length others ≤ 8 →
      IsNumber (first ∷ others) (value (first ∷ others))

-- a number that is written as one
pub record IsLineNumber (n : ℕ) : Type 0 where
  pub some : 1 ≤ n
  pub few : n ≤ 999999999
