use Rattle.dlk_strategy.proofs.Expanding.{one_model}
use Rattle.dlk_strategy.proofs.OneFate.{one_run}
use Rattle.dlk_strategy.proofs.OneOnce.{one_once}
use Rattle.dlk_strategy.proofs.laws.one_outcome.Goals as goal

pub returns : goal.returns
returns c =
    let one_atom = one_once c.one_atom.ensures.steps c.one_atom.ensures.fault c.one_atom.ensures.not_both in
    let one_plain = one_run one_atom c.one_plan.ensures.plan c.one_plan.ensures.reason c.one_plan.ensures.apart c.one_provable.ensures in
    one_model c.one_expansion.ensures.strategies one_plain
