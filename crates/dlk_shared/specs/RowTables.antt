-- A table of rows: sets of numbers, each at its place.
use Rattle.std.specs.Prelude.{◌≡◌, ℕ, ◌<◌, ◌≤◌, false, List, length, Option, Some}
use Rattle.dlk_tree.specs.Statics.{none}
use Rattle.dlk_vars.specs.Rows.{Row, has_number}
use Rattle.dlk_vars.specs.Sets.{StandsFor}
use Rattle.dlk_shared.specs.SetTables.{row_at}

-- the row at this place has no number, and stands for no variable
pub record IsEmptyAt (rows : List Row) (n : ℕ) : Type 0 where
  pub known : n < length rows
  pub numbers : (m : ℕ) → has_number (row_at rows n) m ≡ false
  pub vars : StandsFor (row_at rows n) none

-- where a place is remembered, the row there is empty
pub record KnowsEmpty (rows : List Row) (place : Option ℕ) : Type 0 where
  pub at : (n : ℕ) → place ≡ Some n → IsEmptyAt rows n

-- each row keeps its place
pub record KeepsRows (old new : List Row) : Type 0 where
  pub long : length old ≤ length new
  pub same : (n : ℕ) → n < length old → row_at new n ≡ row_at old n
