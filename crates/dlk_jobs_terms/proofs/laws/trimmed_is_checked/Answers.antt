use Rattle.dlk_jobs_terms.proofs.Accepted.{trimmed, trimmed_checks}
use Rattle.dlk_jobs_terms.proofs.laws.trimmed_is_checked.Goals as goal

pub returns-clause-trimmed : goal.returns-clause-trimmed
returns-clause-trimmed c =
    trimmed c.recorded_is_written.ensures c.accepted_steps_have_symbols.ensures c.accepted_says_steps.ensures.taken c.trimmed_is_taken.ensures.last
    c.trimmed_is_neat.ensures.unlike c.trimmed_is_neat.ensures.named

pub returns-clause-checked : goal.returns-clause-checked
returns-clause-checked c =
    trimmed_checks c.recorded_is_written.ensures c.accepted_steps_have_symbols.ensures c.accepted_says_steps.ensures.taken c.trimmed_is_taken.ensures.last
    c.trimmed_is_neat.ensures.unlike c.trimmed_is_neat.ensures.named
