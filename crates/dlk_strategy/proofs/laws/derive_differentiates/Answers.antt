use Rattle.dlk_strategy.proofs.Differentiated.{derive_done}
use Rattle.dlk_strategy.proofs.laws.derive_differentiates.Goals as goal

pub returns : goal.returns
returns c = λ byte model k d path is.
    let law = c.derivative_is_reached.ensures in
    derive_done byte model k d path (law.reached byte model k d path is) (law.plans model k d path is) (law.few model k d path is)
