use Rattle.dlk_jobs_check.proofs.SomeReply.{some_check, some_guard}
use Rattle.dlk_jobs_check.proofs.laws.some_check_reply.Goals as goal

pub returns-clause-checks : goal.returns-clause-checks
returns-clause-checks c = some_check

pub returns-clause-guards : goal.returns-clause-guards
returns-clause-guards c = some_guard c.first_or_guarded.ensures.some
