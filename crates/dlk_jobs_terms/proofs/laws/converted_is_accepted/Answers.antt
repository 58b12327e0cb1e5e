use Rattle.dlk_jobs_terms.proofs.Accepted.{converted}
use Rattle.dlk_jobs_terms.proofs.laws.converted_is_accepted.Goals as goal

pub returns : goal.returns
returns c = converted c.recorded_is_written.ensures c.accepted_steps_have_symbols.ensures c.accepted_says_steps.ensures.taken
