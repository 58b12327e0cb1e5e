use Rattle.dlk_strategy.proofs.OnGoalKept.{on_shows}
use Rattle.dlk_strategy.proofs.laws.run_on_keeps_conclusion.Goals as goal

pub returns : goal.returns
returns c = on_shows c.atom_replaces_goal.ensures.new
