use Rattle.std.proofs.Common.{arith}
use Rattle.dlk_strategy.specs.Runs.{Progress}
use Rattle.dlk_strategy.proofs.OnGoal.{some_on}
use Rattle.dlk_strategy.proofs.SomeFate.{some_fate, both}
use Rattle.dlk_strategy.proofs.TakenFormulas.{taken_formulas}
use Rattle.dlk_strategy.proofs.laws.some_outcome_on.Goals as goal

pub returns : goal.returns
returns c = λ t steps rows goal used of_text names taken there.
    let formulas = taken_formulas c.history_derives.ensures.rows c.derived_formulas.ensures in
    let becomes = c.some_expansion.ensures t of_text in
    let fitting = c.expansion_fits.ensures.fitting t becomes.0 of_text becomes.1 in
    let named = c.expansion_fits.ensures.names t becomes.0 names becomes.1 in
    let atoms = both becomes.0 fitting named in
    let plans = c.plan_is_fitting.ensures in
    let now : Progress = record { steps = steps; rows = rows; used = used } in
    let run = some_fate c.atom_is_taken.ensures formulas c.some_atom.ensures c.some_plan.ensures plans.fitting plans.names becomes.0 atoms 1 goal there.0 now
    taken (omega (arith, there.1)) in
    some_on t becomes.0 steps rows goal used run.0 becomes.1 run.1
