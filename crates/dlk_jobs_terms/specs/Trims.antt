-- What `trim` answers to a model and a term.
use Rattle.std.specs.Prelude.{◌≤◌, ℕ, List, length}
use Rattle.dlk_calculus.specs.Provables.{Provable}
use Rattle.dlk_calculus.specs.Steps.{Step}
use Rattle.dlk_link.specs.Neat.{AreUnlike, AreNamed}
use Rattle.dlk_link.specs.Trimmed.{Trimmed}
use Rattle.dlk_replies.specs.Replies.{Reply}
use Rattle.dlk_jobs_check.specs.Terms.{TakesTerm, RefusesTerm}
use Rattle.dlk_jobs_record.specs.Records.{Records, IsWritten}
use Rattle.dlk_jobs_terms.specs.Made.{RecordsLast}

-- Trims model term reply: what isn't taken is refused; else the steps kept of the term are written and reported, unless too long.
pub data Trims (model term : List ℕ) : Reply → Type 0 where
  refuses : (reply : Reply) → RefusesTerm model term reply → Trims model term reply
  trims : (steps : List Step) (rows : List Provable) (p : Provable) → TakesTerm model term steps rows p →
      (kept : List Step) → Trimmed steps kept → (reply : Reply) → RecordsLast kept reply → Trims model term reply

-- The written term shows what the term shows, and this is reported. It has at most as many steps, of which no two are equal and each but the last
-- is named by a later one.
pub record IsTrimmed (model term written : List ℕ) (reply : Reply) : Type 0 where
  pub steps : List Step
  pub rows : List Provable
  pub last : Provable
  pub takes : TakesTerm model term steps rows last
  pub kept : List Step
  pub records : Records kept last reply
  pub few : length kept ≤ length steps
  pub unlike : AreUnlike kept
  pub named : AreNamed kept
  pub kept_rows : List Provable
  pub is_written : IsWritten written kept_rows last reply
