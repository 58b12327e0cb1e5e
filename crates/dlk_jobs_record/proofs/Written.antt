-- A term that is written is accepted, and `check` answers the same to it.
use Rattle.std.proofs.Common.{◌≡◌, ◌≤◌, ℕ, List, [], length, Some, sym, ap, subst, arith}
use Rattle.std.specs.Prelude.{All}
use Rattle.dlk_tree.specs.Trees.{Tree}
use Rattle.dlk_calculus.specs.Provables.{Provable}
use Rattle.dlk_calculus.specs.Steps.{Step}
use Rattle.dlk_kernel.specs.Taken.{Takes}
use Rattle.dlk_replay.specs.Files.{file_lines, accepted, Verdict}
use Rattle.dlk_recorder.specs.Terms.{term_text, HasSymbols}
use Rattle.dlk_replies.specs.declared.form.Role.TheVariants.{Term}
use Rattle.dlk_replies.specs.declared.reply.Layout.TheVariants.{Text}
use Rattle.dlk_replies.specs.declared.reply.Showing.{Showing}
use Rattle.dlk_replies.specs.declared.reply.Showing.TheVariants.{Reported}
use Rattle.dlk_replies.specs.Forms.{limit_of}
use Rattle.dlk_replies.specs.Replies.{Reply, printing}
use Rattle.dlk_jobs_check.specs.Terms.{ModelText, proves, Accepts}
use Rattle.dlk_jobs_check.specs.Checks.{Checks, reports, answered, reported}
use Rattle.dlk_jobs_check.proofs.OneTerm.{replays}
use Rattle.dlk_jobs_record.specs.Records.{recorded, Records, too_long, writes, IsLast, IsWritten}
use Rattle.dlk_jobs_record.proofs.TakenRows.{taken_count, some_steps}

-- the term file of steps that are taken is accepted, if it isn't too long
abbrev pub RecordedIsAccepted : Type 0
RecordedIsAccepted = (steps : List Step) (rows : List Provable) → Takes [] steps rows → All HasSymbols steps → 1 ≤ length steps →
    length (term_text steps) ≤ 999999999 → (line : ℕ) × Verdict (file_lines (term_text steps)) (accepted rows line)

module _ (accepts : RecordedIsAccepted) (steps : List Step) (rows : List Provable) (p : Provable) (takes : Takes [] steps rows) (symbols : All HasSymbols steps)
    (last : IsLast rows p) where
  whole_written : length (term_text steps) ≤ limit_of Term → IsWritten (term_text steps) rows p (recorded p steps)
  whole_written short =
      let verdict = accepts steps rows takes symbols (some_steps steps rows p takes last) (omega (arith, short)) in
      record {
        short = short;
        accepts = record { before = last.before; last = last.rows_are; line = verdict.0; verdict = verdict.1 };
        report = ap (λ n. reported Text p n) (taken_count steps rows takes);
      }

  pub recorded_is_written : (reply : Reply) (term : List ℕ) → Records steps p reply → reply.written ≡ Some term → IsWritten term rows p reply
  recorded_is_written _ term (too_long long) written = absurd cc
  recorded_is_written _ term (writes short) written =
      let same : term_text steps ≡ term = cc in
      subst (λ (l : List ℕ). IsWritten l rows p (recorded p steps)) same (whole_written short)

-- the term that is written of steps that are taken
abbrev pub RecordedIsWritten : Type 0
RecordedIsWritten = (steps : List Step) (rows : List Provable) (p : Provable) (reply : Reply) (term : List ℕ) → Takes [] steps rows → All HasSymbols steps →
    IsLast rows p → Records steps p reply → reply.written ≡ Some term → IsWritten term rows p reply

module _ (model term : List ℕ) (f : Tree) (reads : ModelText model f) (rows : List Provable) (p : Provable) (shows : p.conclusion ≡ proves f) where
  -- `check` accepts a term that shows the model's formula, and shows its proof
  pub accepted_checks : (showing : Showing) → Accepts term rows p → Checks showing model term (answered showing p (length rows))
  accepted_checks showing a =
      let replayed = replays term rows p a in
      reports replayed.0 rows p (record { formula = f; reads = reads; replays = replayed.1; shows = shows })

  pub written_is_checked : (reply : Reply) → IsWritten term rows p reply →
      (length term ≤ limit_of Term) × Checks (Reported Text) model term (printing reply.status reply.printed)
  written_is_checked reply w = (w.short, subst (λ (r : Reply). Checks (Reported Text) model term r) (sym w.report) (accepted_checks (Reported Text) w.accepts))
