-- Sets of variables: what a set of numbers stands for, by a table that numbers variables.
use Rattle.std.specs.Prelude.{◌≡◌, ℕ, ◌<◌, ◌≤◌, ◌↔◌, Bool, List, Some, length, IsTrue}
use Rattle.std.specs.Option.{option_map_or}
use Rattle.dlk_tree.specs.Statics.{just, either, both}
use Rattle.dlk_tree.specs.Listed.{IsInhabited}
use Rattle.dlk_tree.specs.declared.op.Var.{Var}
use Rattle.dlk_vars.specs.Rows.{Row, has_number}
use Rattle.dlk_vars.specs.Tables.{number_of, IsTable}

-- whether the variable is in the set: as its number is, and without a number as the flag says
abbrev pub has : List Var → Row → Var → Bool
has table r v = option_map_or (has_number r) (number_of table v) r.others

-- past the table each number is in the set as the flag says, so that a variable that is numbered later stays in it or out of it
abbrev pub IsWithin : List Var → Row → Type 0
IsWithin table r = (n : ℕ) → length table ≤ n → has_number r n ≡ r.others

-- Whatever the table:

-- r stands for this set of variables
pub record StandsFor (r : Row) (set : Var → Bool) : Type 0 where
  pub members : (table : List Var) (v : Var) → has table r v ≡ set v
  pub within : (table : List Var) → IsWithin table r

-- r is s with the variable of this number
pub record Gains (s : Row) (n : ℕ) (r : Row) : Type 0 where
  pub members : (table : List Var) (v : Var) → number_of table v ≡ Some n → (w : Var) → has table r w ≡ either (has table s) (just v) w
  pub within : (table : List Var) → n < length table → IsWithin table s → IsWithin table r

-- r has the variables that `pick` picks, as `either`, of those of two sets
pub record Picks (pick : (Var → Bool) → (Var → Bool) → Var → Bool) (one other r : Row) : Type 0 where
  pub members : (table : List Var) (v : Var) → has table r v ≡ pick (has table one) (has table other) v
  pub within : (table : List Var) → IsWithin table one → IsWithin table other → IsWithin table r

-- the answer is true exactly where some variable is in the set
pub record IsNonempty (answer : Bool) (r : Row) : Type 0 where
  pub some : (table : List Var) → IsTable table → IsWithin table r → IsTrue answer ↔ IsInhabited (has table r)

-- the answer is true exactly where some variable is in both sets
pub record AreMeeting (answer : Bool) (one other : Row) : Type 0 where
  pub some : (table : List Var) → IsTable table → IsWithin table one → IsWithin table other
      → IsTrue answer ↔ IsInhabited (both (has table one) (has table other))
