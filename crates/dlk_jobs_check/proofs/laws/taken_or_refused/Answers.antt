use Rattle.dlk_jobs_check.proofs.OneTerm.{some_judgement, one_refusal, one_taken, refused_or_taken}
use Rattle.dlk_jobs_check.proofs.laws.taken_or_refused.Goals as goal

pub returns-clause-some : goal.returns-clause-some
returns-clause-some c = some_judgement

pub returns-clause-refused : goal.returns-clause-refused
returns-clause-refused c = one_refusal

pub returns-clause-taken : goal.returns-clause-taken
returns-clause-taken c = one_taken

pub returns-clause-not_both : goal.returns-clause-not_both
returns-clause-not_both c = refused_or_taken
