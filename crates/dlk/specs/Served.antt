-- What may be relied on whenever the program ran: the clauses of `run` that speak of no counter, one field a clause.
use Rattle.std.specs.Prelude.{◌≡◌, ◌⊎◌, ℕ, List}
use Rattle.dlk_desk.specs.Outside.{Outside}
use Rattle.dlk_replies.specs.Forms.{Word}
use Rattle.dlk.specs.Runs.{Caused, Asks, Keeps, HasInputs, Answered, Completes}
use Rattle.dlk.specs.Headline.{DerivedTruly, ClosedTruly, JudgesTruly, ProvesTruly, GuardsTruly}
use Rattle.dlk.specs.WrittenTerms.{ConvertsTruly, LinksTruly, TrimsTruly}
use Rattle.dlk.specs.Sessions.{SessionsTruly}

pub record Serves (tells : Type 0) (words : List Word) (status : ℕ) (old new : Outside) : Type 0 where
  pub derived_truly : tells → DerivedTruly words status old new
  pub closed_truly : tells → ClosedTruly words status old new
  pub judges_truly : tells → JudgesTruly words status old new
  pub proves_truly : tells → ProvesTruly words status old new
  pub guards_truly : tells → GuardsTruly words status old new
  pub converts_truly : tells → ConvertsTruly words status old new
  pub links_truly : tells → LinksTruly words status old new
  pub trims_truly : tells → TrimsTruly words status old new
  pub sessions_truly : tells → SessionsTruly words status old new
  pub caused : Caused words status old new
  pub asks : Asks tells words status old new
  pub keeps : Keeps tells words status old new
  pub lacks : tells → (HasInputs words old → ⊥) → (status ≡ 4) ⊎ (status ≡ 6)
  pub answered : tells → HasInputs words old → Answered words status old new
  pub completes : tells → HasInputs words old → Completes words status old new
