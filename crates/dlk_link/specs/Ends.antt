-- The last row of a proof.
use Rattle.std.specs.Prelude.{List, [], length}
use Rattle.dlk_calculus.specs.Places.{At}
use Rattle.dlk_calculus.specs.Provables.{Provable}
use Rattle.dlk_calculus.specs.Steps.{Step}
use Rattle.dlk_kernel.specs.Taken.{Takes}

-- the steps, at least one, are taken from nothing, and this is the last row
pub record EndsIn (steps : List Step) (p : Provable) : Type 0 where
  pub rows : List Provable
  pub takes : Takes [] steps rows
  pub last : At rows (length rows) p
