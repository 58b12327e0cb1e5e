-- `gen` is done or refuses, and sums up the proof that `prove` reports.
use Rattle.std.proofs.Common.{◌≡◌, ◌⊎◌, ℕ, List, length, None, Some, refl, sym, ◌∙◌, subst, inl, inr}
use Rattle.dlk_calculus.specs.Provables.{Provable}
use Rattle.dlk_calculus.specs.Steps.{Step}
use Rattle.dlk_tacsyn.specs.Faults.{Fault, Syntax, Nesting, Repeat, UnknownAtom, Arguments}
use Rattle.dlk_library.specs.Generated.{generated_model, generated_strategy}
use Rattle.dlk_replies.specs.declared.form.Role.TheVariants.{Model}
use Rattle.dlk_replies.specs.declared.reply.Showing.TheVariants.{Summed}
use Rattle.dlk_replies.specs.declared.reply.Status.TheVariants.{Done}
use Rattle.dlk_replies.specs.Replies.{Reply}
use Rattle.dlk_jobs_check.specs.Checks.{Checks, refuses as refuses_term, reports, summed}
use Rattle.dlk_jobs_record.specs.Records.{Records, too_long, writes}
use Rattle.dlk_jobs_prove.specs.Proves.{Proves, bad_model, bad_strategy, fails, spent, records, strategy_refused}
use Rattle.dlk_jobs_prove.specs.Generates.{Generates, refuses, checks, SumsUp}
use Rattle.dlk_replies.proofs.CarriedOut.{IsRefused, text_is_refused}
use Rattle.dlk_jobs_check.proofs.GuardReports.{term_is_refused}
use Rattle.dlk_jobs_check.proofs.OneReply.{one_check}
use Rattle.dlk_jobs_prove.proofs.OneReply.{one_written}
use Rattle.dlk_jobs_record.proofs.Written.{RecordedIsWritten}
use Rattle.dlk_jobs_prove.proofs.Rechecked.{unwritten, written_by, shown, written_checks}
use Rattle.dlk_jobs_prove.proofs.StrategyLaws.{OneText, TextOrFault, OneFault, OneRun, RunsTaken, RunsReplaceSymbols, RunsShow}

strategy_is_refused : (why : Fault) → IsRefused (strategy_refused why)
strategy_is_refused (Syntax at) = refl
strategy_is_refused (Nesting at) = refl
strategy_is_refused (Repeat at) = refl
strategy_is_refused (UnknownAtom at) = refl
strategy_is_refused (Arguments at) = refl

record_is_refused : (steps : List Step) (p : Provable) (reply : Reply) → Records steps p reply → reply.written ≡ None → IsRefused reply
record_is_refused steps p _ (too_long long) none = refl
record_is_refused steps p _ (writes short) none = absurd cc

-- what writes nothing refuses
unwritten_is_refused : (model strategy : List ℕ) (reply : Reply) → Proves model strategy reply → reply.written ≡ None → IsRefused reply
unwritten_is_refused model strategy _ (bad_model why is) none = text_is_refused Model why
unwritten_is_refused model strategy _ (bad_strategy f reads why is) none = strategy_is_refused why
unwritten_is_refused model strategy _ (fails at used why run) none = refl
unwritten_is_refused model strategy _ (spent at run) none = refl
unwritten_is_refused model strategy _ (records made left run p ended reply is) none = record_is_refused made.steps p reply is none

sum_status : (n : ℕ) (model term : List ℕ) (reply : Reply) → Checks (Summed n) model term reply → (reply.status ≡ Done) ⊎ IsRefused reply
sum_status n model term _ (refuses_term reply refused) = inr (term_is_refused model term reply refused)
sum_status n model term _ (reports steps rows p takes) = inl refl

pub generated_status : (n : ℕ) (reply : Reply) → Generates n reply → (reply.status ≡ Done) ⊎ IsRefused reply
generated_status n _ (refuses reply proof none) = inr (unwritten_is_refused (generated_model n) (generated_strategy n) reply proof none)
generated_status n _ (checks proved reply term proof written checked) = sum_status n (generated_model n) term reply checked

same_term : {term text : List ℕ} → Some text ≡ Some term → text ≡ term
same_term e = cc

module _ (recorded : RecordedIsWritten) (runs_taken : RunsTaken) (replace_symbols : RunsReplaceSymbols) (runs_show : RunsShow) where
  -- the term that is written is checked: its proof is summed up
  written_sums : (n : ℕ) (model strategy term : List ℕ) (reply proved : Reply) → Proves model strategy proved → proved.written ≡ Some term →
      Checks (Summed n) model term reply → SumsUp n reply proved
  written_sums n model strategy term reply proved proof written checked =
      let w = written_by model strategy term proved proof written in
      let mine = written_checks recorded runs_taken replace_symbols runs_show (Summed n) model strategy term proved w in
      record {
        proof = w.proof;
        lines = length w.made.rows;
        summary = one_check (Summed n) model term reply (summed n w.proof (length w.made.rows)) checked mine;
        report = (shown recorded runs_taken replace_symbols model strategy term proved w).report;
      }

  module _ (one_text : OneText) (text_or_fault : TextOrFault) (one_fault : OneFault) (one_run : OneRun) where
    pub generated_sums : (n : ℕ) (term : List ℕ) (reply proved : Reply) → Proves (generated_model n) (generated_strategy n) proved →
        proved.written ≡ Some term →
        Generates n reply → SumsUp n reply proved
    generated_sums n term _ proved proof written (refuses reply again none) =
        absurd (unwritten reply term none (one_written one_text text_or_fault one_fault one_run n proved reply term proof again written))
    generated_sums n term _ proved proof written (checks second reply text again also checked) =
        let same : text ≡ term = same_term (sym also ∙ one_written one_text text_or_fault one_fault one_run n proved second term proof again written) in
        written_sums n (generated_model n) (generated_strategy n) term reply proved proof written
        (subst (λ (t : List ℕ). Checks (Summed n) (generated_model n) t reply) same checked)
