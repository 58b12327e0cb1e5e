use Rattle.dlk_rules.proofs.StepsKept.{step_known, step_same}
use Rattle.dlk_rules.proofs.laws.step_stays.Goals as goal

pub returns-clause-known : goal.returns-clause-known
returns-clause-known c = λ old new step keeps. step_known old new keeps step

pub returns-clause-same : goal.returns-clause-same
returns-clause-same c = λ old new step keeps. step_same old new keeps step
