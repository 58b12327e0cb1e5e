-- Steps taken in turn.
use Rattle.std.specs.Prelude.{List, [], ◌∷◌, ◌++◌}
use Rattle.dlk_calculus.specs.Provables.{Provable}
use Rattle.dlk_calculus.specs.Steps.{Step, StepOf}

-- Takes rows steps after: from these rows on, each step is taken in turn, and adds its row to those so far.
pub data Takes (rows : List Provable) : List Step → List Provable → Type 0 where
  none : Takes rows [] rows
  more : {steps : List Step} {mid : List Provable} {step : Step} {p : Provable} →
      Takes rows steps mid → StepOf mid step p → Takes rows (steps ++ step ∷ []) (mid ++ p ∷ [])
