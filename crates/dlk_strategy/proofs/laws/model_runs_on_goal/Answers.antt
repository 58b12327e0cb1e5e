use Rattle.dlk_strategy.proofs.OnGoal.{model_on, on_model}
use Rattle.dlk_strategy.proofs.laws.model_runs_on_goal.Goals as goal

pub returns-clause-goal : goal.returns-clause-goal
returns-clause-goal c = λ t formula o r.
    let found = model_on t formula o r in
    (found.provable, found.start, found.made, found.run, found.same)

pub returns-clause-model : goal.returns-clause-model
returns-clause-model c = on_model
