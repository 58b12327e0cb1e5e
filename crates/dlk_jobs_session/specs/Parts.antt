-- The parts of a line that runs a strategy.
use Rattle.std.specs.Prelude.{◌≡◌, ℕ, List, ◌++◌, codes}
use Rattle.dlk_lines.specs.Parts.{NumberThen}

-- the word, a goal, and what stands behind the space that ends its number
pub record GoalThen (text : List ℕ) (goal : ℕ) (rest : List ℕ) : Type 0 where
  pub behind : List ℕ
  pub word_is : text ≡ codes "apply " ++ behind
  pub number : NumberThen behind 32 goal rest
