use Rattle.dlk_jobs_prove.proofs.Summed.{generated_status, generated_sums}
use Rattle.dlk_jobs_prove.proofs.laws.generated_is_checked.Goals as goal

pub returns-clause-status : goal.returns-clause-status
returns-clause-status c = generated_status

pub returns-clause-summary : goal.returns-clause-summary
returns-clause-summary c =
    generated_sums c.recorded_is_written.ensures c.run_is_taken.ensures.taken
    (λ bytes t f made left says run. c.run_has_symbols.ensures t f made left (c.fit_strategy.ensures.names bytes t says) run) c.run_shows_formula.ensures
    c.one_strategy.ensures.one c.one_strategy.ensures.no_fault c.one_strategy.ensures.one_fault c.one_outcome.ensures
