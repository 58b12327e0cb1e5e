-- What a kernel's rows stand for, and what is kept of them.
use Rattle.std.specs.Prelude.{◌≡◌, ◌≤◌, List, map, take, length, All}
use Rattle.dlk_tree.specs.Trees.{Tree}
use Rattle.dlk_calculus.specs.Provables.{Provable}
use Rattle.dlk_calculus.specs.Limits.{most_rows}
use Rattle.dlk_calculus.specs.Limited.{IsLimited}
use Rattle.dlk_calculus.specs.Steps.{History}
use Rattle.dlk_sequent.specs.Sequents.{sequent_at, IsKnown}
use Rattle.dlk_kernel.specs.declared.row.Row.{Row}

-- what contracts see of a kernel over a store
pub record State (S : Type 0) : Type 0 where
  pub store : S
  pub rows : List Row

-- the provable that a row stands for
abbrev pub provable_at : List Tree → Row → Provable
provable_at trees row = record {
  conclusion = sequent_at trees row.conclusion;
  goals = map (sequent_at trees) row.goals;
  leaves = map (sequent_at trees) row.leaves;
}

-- the provables that the rows stand for
abbrev pub provables_at : List Tree → List Row → List Provable
provables_at trees rows = map (provable_at trees) rows

-- the provables of a kernel, by the trees of its store
abbrev pub facts : {S : Type 0} → (S → List Tree) → State S → List Provable
facts trees kernel = provables_at (trees kernel.store) kernel.rows

-- the ids of a row are those of the store
pub record IsKnownRow (trees : List Tree) (row : Row) : Type 0 where
  pub conclusion : IsKnown trees row.conclusion
  pub goals : All (IsKnown trees) row.goals
  pub leaves : All (IsKnown trees) row.leaves

-- the rows' ids are known, each row is given by a step from those before it and within the limits, and there aren't too many
pub record AreSoundRows (trees : List Tree) (rows : List Row) : Type 0 where
  pub known : All (IsKnownRow trees) rows
  pub history : History (provables_at trees rows)
  pub limited : All IsLimited (provables_at trees rows)
  pub few : length rows ≤ most_rows

-- the rows are as before, and stand for what they stood for
pub record SameRows {S : Type 0} (trees : S → List Tree) (old new : State S) : Type 0 where
  pub ids : new.rows ≡ old.rows
  pub provables : facts trees new ≡ facts trees old

-- the old rows come first, and stand for what they stood for
pub record ExtendsRows {S : Type 0} (trees : S → List Tree) (old new : State S) : Type 0 where
  pub ids : take (length old.rows) new.rows ≡ old.rows
  pub provables : take (length old.rows) (facts trees new) ≡ facts trees old
