use Rattle.dlk_strategy.proofs.TakenFormulas.{taken_formulas}
use Rattle.dlk_strategy.proofs.TakenSteps.{run_symbols}
use Rattle.dlk_strategy.proofs.laws.run_has_symbols.Goals as goal

pub returns : goal.returns
returns c = λ t formula made left names r.
    let formulas = taken_formulas c.history_derives.ensures.rows c.derived_formulas.ensures in
    let named = c.expansion_fits.ensures.names t r.expansion names r.expanded in
    let plans = c.plan_is_fitting.ensures.names in
    run_symbols c.atom_is_taken.ensures formulas c.atom_has_symbols.ensures plans r.expansion formula made left named r.runs
