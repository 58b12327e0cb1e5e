use Rattle.dlk_jobs_record.proofs.Written.{written_is_checked}
use Rattle.dlk_jobs_record.proofs.laws.written_is_checked.Goals as goal

pub returns : goal.returns
returns c = λ model term f rows p reply reads shows. written_is_checked model term f reads rows p shows reply
