use Rattle.dlk_jobs_record.proofs.OneRecord.{one_record, some_record, whole_record}
use Rattle.dlk_jobs_record.proofs.laws.one_record.Goals as goal

pub returns-clause-one : goal.returns-clause-one
returns-clause-one c = one_record

pub returns-clause-some : goal.returns-clause-some
returns-clause-some c = some_record

pub returns-clause-whole : goal.returns-clause-whole
returns-clause-whole c = whole_record
