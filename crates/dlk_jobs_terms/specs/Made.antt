-- What is answered to the steps that a command has made.
use Rattle.std.specs.Prelude.{List}
use Rattle.dlk_calculus.specs.Provables.{Provable}
use Rattle.dlk_calculus.specs.Steps.{Step}
use Rattle.dlk_link.specs.Ends.{EndsIn}
use Rattle.dlk_replies.specs.Replies.{Reply}
use Rattle.dlk_jobs_record.specs.Records.{Records}

-- the steps are taken from nothing, and this is recorded of them and of their last row
abbrev pub RecordsLast : List Step → Reply → Type 0
RecordsLast steps reply = (last : Provable) × EndsIn steps last × Records steps last reply
