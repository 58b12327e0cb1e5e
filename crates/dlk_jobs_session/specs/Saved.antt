-- What a session has saved, as `check` takes it.
use Rattle.std.specs.Prelude.{◌≡◌, ◌≤◌, ℕ, List, [], length, Some}
use Rattle.dlk_calculus.specs.Provables.{Provable}
use Rattle.dlk_calculus.specs.Steps.{Step}
use Rattle.dlk_kernel.specs.Taken.{Takes}
use Rattle.dlk_replies.specs.declared.form.Role.TheVariants.{Term}
use Rattle.dlk_replies.specs.declared.reply.Layout.TheVariants.{Text}
use Rattle.dlk_replies.specs.declared.reply.Showing.TheVariants.{Reported}
use Rattle.dlk_replies.specs.Forms.{limit_of}
use Rattle.dlk_session.specs.Sessions.{State, Answer}
use Rattle.dlk_jobs_check.specs.Checks.{Checks, reported}
use Rattle.dlk_jobs_record.specs.Records.{IsLast}
use Rattle.dlk_jobs_session.specs.Sessions.{Plays}

-- IsChecked model script term: the term is that of the steps that the script has saved last. They are taken in turn, it is no longer than a term may
-- be, and `check` reports the last of their rows.
pub record IsChecked (model script term : List ℕ) : Type 0 where
  pub answers : List Answer
  pub left : State
  pub plays : Plays model script answers left
  pub steps : List Step
  pub saved : left.saved ≡ Some steps
  pub rows : List Provable
  pub taken : Takes [] steps rows
  pub last : Provable
  pub is_last : IsLast rows last
  pub short : length term ≤ limit_of Term
  pub checked : Checks (Reported Text) model term (reported Text last (length rows))
