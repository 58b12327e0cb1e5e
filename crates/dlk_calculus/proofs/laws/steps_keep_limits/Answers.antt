use Rattle.dlk_calculus.proofs.LimitLaws.{step_limited}
use Rattle.dlk_calculus.proofs.laws.steps_keep_limits.Goals as goal

pub returns : goal.returns
returns c = step_limited
