use Rattle.dlk_recorder.specs.Terms.{last_line}
use Rattle.dlk_jobs_record.proofs.Written.{recorded_is_written}
use Rattle.dlk_jobs_record.proofs.laws.recorded_is_written.Goals as goal

pub returns : goal.returns
returns c = λ steps rows p reply term takes symbols last.
    recorded_is_written
    (λ all given taken have some short. (last_line all, c.recorded_is_accepted.ensures.accepted all given taken have some short))
    steps rows p takes symbols last reply term
