-- What `convert` answers to a term.
use Rattle.std.specs.Prelude.{ℕ, List}
use Rattle.dlk_calculus.specs.Provables.{Provable}
use Rattle.dlk_calculus.specs.Steps.{Step}
use Rattle.dlk_replay.specs.Files.{Verdict, bad, file_lines}
use Rattle.dlk_replay.specs.declared.fault.LineWhy.{LineWhy}
use Rattle.dlk_replies.specs.Replies.{Reply}
use Rattle.dlk_jobs_check.specs.Terms.{line_refused, Accepts, Replays}
use Rattle.dlk_jobs_record.specs.Records.{Records, IsWritten}

-- Converts term reply: a wrong line is refused; else the term's steps are written anew and its last row reported, unless too long.
pub data Converts (term : List ℕ) : Reply → Type 0 where
  bad_line : (n : ℕ) (why : LineWhy) → Verdict (file_lines term) (bad n why) → Converts term (line_refused n why)
  records : (steps : List Step) (rows : List Provable) (p : Provable) → Replays term steps rows p → (reply : Reply) → Records steps p reply →
      Converts term reply

-- the written term has the very rows of the term, of which the last is reported
pub record IsConverted (term written : List ℕ) (reply : Reply) : Type 0 where
  pub rows : List Provable
  pub last : Provable
  pub accepts : Accepts term rows last
  pub is_written : IsWritten written rows last reply
