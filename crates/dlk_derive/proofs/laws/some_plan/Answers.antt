use Rattle.dlk_derive.proofs.Planned.{some_plan}
use Rattle.dlk_derive.proofs.laws.some_plan.Goals as goal

pub returns : goal.returns
returns c = some_plan
