-- What `prove` writes is accepted by `check`, which answers the same.
use Rattle.std.proofs.Common.{◌≡◌, ◌≤◌, ℕ, List, length, None, Some, refl}
use Rattle.dlk_calculus.specs.Provables.{Provable}
use Rattle.dlk_tacsyn.specs.Faults.{Fault, Syntax, Nesting, Repeat, UnknownAtom, Arguments}
use Rattle.dlk_strategy.specs.Runs.{Progress, Done}
use Rattle.dlk_replies.specs.declared.form.Role.TheVariants.{Model, Term}
use Rattle.dlk_replies.specs.declared.reply.Showing.{Showing}
use Rattle.dlk_replies.specs.declared.reply.Showing.TheVariants.{Reported}
use Rattle.dlk_replies.specs.declared.reply.Layout.TheVariants.{Text}
use Rattle.dlk_replies.specs.Forms.{limit_of}
use Rattle.dlk_replies.specs.Replies.{Reply, printing}
use Rattle.dlk_replies.specs.Refusals.{text_refused}
use Rattle.dlk_replies.proofs.CarriedOut.{text_unwritten}
use Rattle.dlk_jobs_check.specs.Terms.{proves}
use Rattle.dlk_jobs_check.specs.Checks.{Checks, answered}
use Rattle.dlk_jobs_record.specs.Records.{Records, IsLast, IsWritten}
use Rattle.dlk_jobs_prove.specs.Proves.{Proves, bad_model, bad_strategy, fails, spent, records, strategy_refused, RunsTo}
use Rattle.dlk_jobs_check.proofs.Ends.{last_item}
use Rattle.dlk_jobs_record.proofs.Written.{RecordedIsWritten, accepted_checks, written_is_checked}
use Rattle.dlk_jobs_record.proofs.Symbols.{all_symbols}
use Rattle.dlk_jobs_prove.proofs.StrategyLaws.{RunsTaken, RunsReplaceSymbols, RunsShow}
use Rattle.dlk_jobs_prove.proofs.RunSteps.{run_shows}

-- a refusal writes nothing
strategy_unwritten : (why : Fault) → (strategy_refused why).written ≡ None
strategy_unwritten (Syntax at) = refl
strategy_unwritten (Nesting at) = refl
strategy_unwritten (Repeat at) = refl
strategy_unwritten (UnknownAtom at) = refl
strategy_unwritten (Arguments at) = refl

pub unwritten : (reply : Reply) (term : List ℕ) → reply.written ≡ None → reply.written ≡ Some term → ⊥
unwritten reply term none some = cc

-- the run whose term is written
pub record Written (model strategy term : List ℕ) (reply : Reply) : Type 0 where
  pub made : Progress
  pub left : ℕ
  pub run : RunsTo model strategy (Done made left)
  pub proof : Provable
  pub ended : IsLast made.rows proof
  pub records_it : Records made.steps proof reply
  pub written : reply.written ≡ Some term

pub written_by : (model strategy term : List ℕ) (reply : Reply) → Proves model strategy reply → reply.written ≡ Some term → Written model strategy term reply
written_by model strategy term _ (bad_model why is) written = absurd (unwritten (text_refused Model why) term (text_unwritten Model why) written)
written_by model strategy term _ (bad_strategy f reads why is) written = absurd (unwritten (strategy_refused why) term (strategy_unwritten why) written)
written_by model strategy term _ (fails at used why run) written = absurd cc
written_by model strategy term _ (spent at run) written = absurd cc
written_by model strategy term _ (records made left run p ended reply is) written =
    record { made = made; left = left; run = run; proof = p; ended = ended; records_it = is; written = written }

module _ (recorded : RecordedIsWritten) (runs_taken : RunsTaken) (replace_symbols : RunsReplaceSymbols) where
  pub shown : (model strategy term : List ℕ) (reply : Reply) → (w : Written model strategy term reply) → IsWritten term w.made.rows w.proof reply
  shown model strategy term reply w =
      let run = w.run in
      recorded w.made.steps w.made.rows w.proof reply term (runs_taken run.tactic run.formula w.made w.left run.run)
      (all_symbols w.made.steps (replace_symbols strategy run.tactic run.formula w.made w.left run.says run.run)) w.ended w.records_it w.written

  module _ (runs_show : RunsShow) where
    shows_formula : (model strategy term : List ℕ) (reply : Reply) → (w : Written model strategy term reply) → w.proof.conclusion ≡ proves w.run.formula
    shows_formula model strategy term reply w =
        run_shows runs_show w.run.tactic w.run.formula w.made w.left w.run.run w.proof (last_item w.made.rows w.ended.before w.proof w.ended.rows_are)

    -- `check` accepts the term that is written, and shows its proof
    pub written_checks : (showing : Showing) (model strategy term : List ℕ) (reply : Reply) → (w : Written model strategy term reply) →
        Checks showing model term (answered showing w.proof (length w.made.rows))
    written_checks showing model strategy term reply w =
        accepted_checks model term w.run.formula w.run.reads w.made.rows w.proof (shows_formula model strategy term reply w) showing
        (shown model strategy term reply w).accepts

    pub proved_is_checked : (model strategy term : List ℕ) (reply : Reply) → Proves model strategy reply → reply.written ≡ Some term →
        (length term ≤ limit_of Term) × Checks (Reported Text) model term (printing reply.status reply.printed)
    proved_is_checked model strategy term reply is written =
        let w = written_by model strategy term reply is written in
        written_is_checked model term w.run.formula w.run.reads w.made.rows w.proof (shows_formula model strategy term reply w) reply
        (shown model strategy term reply w)
