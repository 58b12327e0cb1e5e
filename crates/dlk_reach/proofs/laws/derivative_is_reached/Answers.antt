use Rattle.dlk_reach.proofs.Reached.{reached, has_plan, few_calls}
use Rattle.dlk_reach.proofs.laws.derivative_is_reached.Goals as goal

pub returns : goal.returns
returns c = record {
  reached = reached c.plan_rewrites_in_place.ensures.terms c.plan_rewrites_in_place.ensures.formulas;
  plans = has_plan;
  few = few_calls;
}
