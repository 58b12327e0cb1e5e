use Rattle.dlk_jobs_check.proofs.OneReply.{one_check, one_guard}
use Rattle.dlk_jobs_check.proofs.laws.one_check_reply.Goals as goal

pub returns-clause-checks : goal.returns-clause-checks
returns-clause-checks c = one_check

pub returns-clause-guards : goal.returns-clause-guards
returns-clause-guards c = one_guard c.first_or_guarded.ensures.one
