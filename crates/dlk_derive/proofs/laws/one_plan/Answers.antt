use Rattle.dlk_derive.proofs.Planned.{plans_same, reasons_same, apart}
use Rattle.dlk_derive.proofs.laws.one_plan.Goals as goal

pub returns-clause-plan : goal.returns-clause-plan
returns-clause-plan c = plans_same

pub returns-clause-reason : goal.returns-clause-reason
returns-clause-reason c = reasons_same

pub returns-clause-apart : goal.returns-clause-apart
returns-clause-apart c = apart
