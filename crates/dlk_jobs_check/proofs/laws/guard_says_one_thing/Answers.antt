use Rattle.dlk_jobs_check.proofs.OneReply.{one_said}
use Rattle.dlk_jobs_check.proofs.laws.guard_says_one_thing.Goals as goal

pub returns : goal.returns
returns c = one_said c.first_or_guarded.ensures.one
