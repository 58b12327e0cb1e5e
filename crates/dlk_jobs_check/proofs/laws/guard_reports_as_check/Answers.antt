use Rattle.dlk_jobs_check.proofs.GuardReports.{refused_alike, reported_behind}
use Rattle.dlk_jobs_check.proofs.laws.guard_reports_as_check.Goals as goal

pub returns-clause-refused : goal.returns-clause-refused
returns-clause-refused c = refused_alike

pub returns-clause-accepted : goal.returns-clause-accepted
returns-clause-accepted c = reported_behind
