use Rattle.dlk_guard.proofs.SmoothTerms.{constant_smooth}
use Rattle.dlk_guard.proofs.laws.smooth_without_variables.Goals as goal

pub returns : goal.returns
returns c = constant_smooth
