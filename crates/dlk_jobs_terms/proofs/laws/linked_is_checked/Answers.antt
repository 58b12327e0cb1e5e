use Rattle.dlk_jobs_terms.proofs.Accepted.{joined, joined_checks}
use Rattle.dlk_jobs_terms.proofs.laws.linked_is_checked.Goals as goal

pub returns-clause-joined : goal.returns-clause-joined
returns-clause-joined c =
    joined c.recorded_is_written.ensures c.accepted_steps_have_symbols.ensures c.accepted_says_steps.ensures.taken c.linked_is_joined.ensures.row

pub returns-clause-checked : goal.returns-clause-checked
returns-clause-checked c =
    joined_checks c.recorded_is_written.ensures c.accepted_steps_have_symbols.ensures c.accepted_says_steps.ensures.taken c.linked_is_joined.ensures.row
