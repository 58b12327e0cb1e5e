use Rattle.dlk_strategy.proofs.SomeFate.{some_model, both}
use Rattle.dlk_strategy.proofs.TakenFormulas.{taken_formulas}
use Rattle.dlk_strategy.proofs.laws.some_outcome.Goals as goal

pub returns : goal.returns
returns c = λ t formula of_text names formed small shallow.
    let formulas = taken_formulas c.history_derives.ensures.rows c.derived_formulas.ensures in
    let becomes = c.some_expansion.ensures t of_text in
    let fitting = c.expansion_fits.ensures.fitting t becomes.0 of_text becomes.1 in
    let named = c.expansion_fits.ensures.names t becomes.0 names becomes.1 in
    let atoms = both becomes.0 fitting named in
    let plans = c.plan_is_fitting.ensures in
    let run = some_model c.atom_is_taken.ensures formulas c.some_atom.ensures c.some_plan.ensures plans.fitting plans.names becomes.0 formula atoms formed small
    shallow in
    (run.0, record { expansion = becomes.0; expanded = becomes.1; runs = run.1 })
