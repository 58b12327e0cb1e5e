use Rattle.dlk_strategy.proofs.TakenSteps.{run_shows}
use Rattle.dlk_strategy.proofs.laws.run_shows_formula.Goals as goal

pub returns : goal.returns
returns c = λ t formula made left r. run_shows c.atom_replaces_goal.ensures.new r.expansion formula made left r.runs
