use Rattle.dlk_strategy.proofs.OnGoalKept.{on_symbols}
use Rattle.dlk_strategy.proofs.TakenFormulas.{taken_formulas}
use Rattle.dlk_strategy.proofs.laws.run_on_has_symbols.Goals as goal

pub returns : goal.returns
returns c =
    let formulas = taken_formulas c.history_derives.ensures.rows c.derived_formulas.ensures in
    on_symbols c.atom_is_taken.ensures formulas c.atom_has_symbols.ensures c.plan_is_fitting.ensures.names c.expansion_fits.ensures.names
