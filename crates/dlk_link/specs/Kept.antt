-- What a trimmed term shows.
use Rattle.std.specs.Prelude.{◌≡◌, ◌≤◌, ℕ, List, [], length}
use Rattle.dlk_calculus.specs.Places.{At}
use Rattle.dlk_calculus.specs.Provables.{Provable}
use Rattle.dlk_calculus.specs.Steps.{Step}
use Rattle.dlk_kernel.specs.Taken.{Takes}
use Rattle.dlk_link.specs.Trimmed.{IsNeeded, new_number}

-- the kept steps are taken, at most as many as the rows, and each needed row is theirs of its new number
pub record Keeps (term : List Step) (numbers : List ℕ) (rows : List Provable) (kept : List Step) : Type 0 where
  pub kept_rows : List Provable
  pub takes : Takes [] kept kept_rows
  pub few : length kept ≤ length rows
  pub numbered : length numbers ≡ length rows
  pub same : (row : ℕ) (p : Provable) → IsNeeded term row → At rows row p → At kept_rows (new_number numbers row) p

-- the kept steps are taken and end in the same provable, and are at most as many
pub record ShowsSame (rows : List Provable) (kept : List Step) : Type 0 where
  pub kept_rows : List Provable
  pub takes : Takes [] kept kept_rows
  pub few : length kept ≤ length rows
  pub same : (p : Provable) → At rows (length rows) p → At kept_rows (length kept_rows) p
