use Rattle.dlk_strategy.proofs.Blind.{blind_fate}
use Rattle.dlk_strategy.proofs.laws.run_ignores_steps.Goals as goal

pub returns-clause-more : goal.returns-clause-more
returns-clause-more c = λ t goals here before now o run. (blind_fate before t goals here).forth now o run

pub returns-clause-fewer : goal.returns-clause-fewer
returns-clause-fewer c = λ t goals here before now o run.
    let found = (blind_fate before t goals here).back now o run in
    (found.fewer, found.becomes, found.same)
