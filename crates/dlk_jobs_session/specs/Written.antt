-- The term file of what a session has saved.
use Rattle.std.specs.Prelude.{◌≡◌, ◌<◌, ◌≤◌, ℕ, List, length, Option, Some, None}
use Rattle.dlk_calculus.specs.Steps.{Step}
use Rattle.dlk_recorder.specs.Terms.{term_text}
use Rattle.dlk_replies.specs.declared.form.Role.TheVariants.{Term}
use Rattle.dlk_replies.specs.Forms.{limit_of}
use Rattle.dlk_replies.specs.Replies.{Reply}
use Rattle.dlk_jobs_record.specs.Records.{term_too_long}

-- the file that is written, if one is
pub data IsFileOf : Option (List Step) → Option (List ℕ) → Type 0 where
  no_file : IsFileOf None None
  file : {steps : List Step} → length (term_text steps) ≤ limit_of Term → IsFileOf (Some steps) (Some (term_text steps))

-- it would be longer than a term may be
pub record IsTooLong (saved : Option (List Step)) (reply : Reply) : Type 0 where
  pub steps : List Step
  pub saved_is : saved ≡ Some steps
  pub long : limit_of Term < length (term_text steps)
  pub reply_is : reply ≡ term_too_long (length (term_text steps))
