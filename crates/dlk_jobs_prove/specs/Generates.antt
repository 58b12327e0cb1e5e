-- What `gen` answers to a number: the generated model is proved by the generated strategy, and the term that `prove` writes is checked.
use Rattle.std.specs.Prelude.{◌≡◌, ℕ, List, Some, None}
use Rattle.dlk_library.specs.Generated.{generated_model, generated_strategy}
use Rattle.dlk_calculus.specs.Provables.{Provable}
use Rattle.dlk_replies.specs.declared.reply.Layout.TheVariants.{Text}
use Rattle.dlk_replies.specs.declared.reply.Showing.TheVariants.{Summed}
use Rattle.dlk_replies.specs.Replies.{Reply, printing}
use Rattle.dlk_jobs_check.specs.Checks.{Checks, reported, summed}
use Rattle.dlk_jobs_prove.specs.Proves.{Proves}

-- Generates n reply: what is answered of so many assignments
pub data Generates (n : ℕ) : Reply → Type 0 where
  -- what `prove` refuses
  refuses : (reply : Reply) → Proves (generated_model n) (generated_strategy n) reply → reply.written ≡ None → Generates n reply
  -- what `check` says of the term that `prove` writes
  checks : (proved reply : Reply) (term : List ℕ) → Proves (generated_model n) (generated_strategy n) proved → proved.written ≡ Some term →
      Checks (Summed n) (generated_model n) term reply → Generates n reply

-- the reply sums up the proof whose report is what `prove` prints
pub record SumsUp (n : ℕ) (reply proved : Reply) : Type 0 where
  pub proof : Provable
  pub lines : ℕ
  pub summary : reply ≡ summed n proof lines
  pub report : printing proved.status proved.printed ≡ reported Text proof lines
