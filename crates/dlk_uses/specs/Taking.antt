-- Steps taken in turn, up to one that isn't.
use Rattle.std.specs.Prelude.{◌≡◌, ◌∷◌, ◌++◌, List}
use Rattle.dlk_calculus.specs.declared.reason.Reason.{Reason}
use Rattle.dlk_calculus.specs.Provables.{Provable}
use Rattle.dlk_calculus.specs.Steps.{Step, Fault}
use Rattle.dlk_kernel.specs.Taken.{Takes}

-- the steps are taken in turn up to one, against which this is the first reason
pub record FirstFault (rows : List Provable) (steps : List Step) (why : Reason) : Type 0 where
  pub before : List Step
  pub step : Step
  pub behind : List Step
  pub steps_are : steps ≡ before ++ step ∷ behind
  pub between : List Provable
  pub takes : Takes rows before between
  pub fault : Fault between step why
