use Rattle.dlk_strategy.proofs.OneFate.{one_fate}
use Rattle.dlk_strategy.proofs.OneOnce.{one_once}
use Rattle.dlk_strategy.proofs.OnGoal.{one_on}
use Rattle.dlk_strategy.proofs.laws.one_outcome_on.Goals as goal

pub returns : goal.returns
returns c =
    let one_atom = one_once c.one_atom.ensures.steps c.one_atom.ensures.fault c.one_atom.ensures.not_both in
    one_on c.one_expansion.ensures.strategies (one_fate one_atom c.one_plan.ensures.plan c.one_plan.ensures.reason c.one_plan.ensures.apart)
