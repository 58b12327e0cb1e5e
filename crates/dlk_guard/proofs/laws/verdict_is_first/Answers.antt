use Rattle.dlk_guard.proofs.Watching.{says_none, says_some, watch_snoc}
use Rattle.dlk_guard.proofs.laws.verdict_is_first.Goals as goal

pub returns-clause-none : goal.returns-clause-none
returns-clause-none c = says_none

pub returns-clause-some : goal.returns-clause-some
returns-clause-some c = says_some

pub returns-clause-next : goal.returns-clause-next
returns-clause-next c = watch_snoc
