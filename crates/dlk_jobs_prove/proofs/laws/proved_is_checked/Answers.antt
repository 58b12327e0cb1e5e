use Rattle.dlk_jobs_prove.proofs.Rechecked.{proved_is_checked}
use Rattle.dlk_jobs_prove.proofs.laws.proved_is_checked.Goals as goal

pub returns : goal.returns
returns c =
    proved_is_checked c.recorded_is_written.ensures c.run_is_taken.ensures.taken
    (λ bytes t f made left says run. c.run_has_symbols.ensures t f made left (c.fit_strategy.ensures.names bytes t says) run) c.run_shows_formula.ensures
