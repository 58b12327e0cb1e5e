-- What `check`, `report` and `smt` answer to a model and a term, and `gen` to those that it makes.
use Rattle.std.specs.Prelude.{ℕ, Bool, true, false, List, ◌++◌, length, Option, Some, None, codes, decimal}
use Rattle.dlk_calculus.specs.Provables.{Provable}
use Rattle.dlk_calculus.specs.Steps.{Step}
use Rattle.dlk_smt.specs.Smt.{first_power, leaves_lines}
use Rattle.dlk_print.specs.Lines.{line}
use Rattle.dlk_report.specs.Reports.{Parts, is_closed, first_word, parts_of, report_of}
use Rattle.dlk_report.specs.Json.{json_of}
use Rattle.dlk_replies.specs.declared.reply.Layout.{Layout}
use Rattle.dlk_replies.specs.declared.reply.Layout.TheVariants.{Text, Json}
use Rattle.dlk_replies.specs.declared.reply.Showing.{Showing}
use Rattle.dlk_replies.specs.declared.reply.Showing.TheVariants.{Reported, Exported, Summed}
use Rattle.dlk_replies.specs.declared.reply.Status.{Status}
use Rattle.dlk_replies.specs.declared.reply.Status.TheVariants.{Closed, Done, Open}
use Rattle.dlk_replies.specs.Replies.{Reply, printing, refusal}
use Rattle.dlk_jobs_check.specs.Terms.{TakesTerm, RefusesTerm}

abbrev pub status_of : Bool → Status
status_of true = Closed
status_of false = Open

-- the bytes of a report: lines of text, or a JSON object on a line
abbrev pub laid_out : Layout → Parts → List ℕ
laid_out Text parts = report_of parts
laid_out Json parts = line (json_of parts)

-- the report of a provable that so many lines have shown
abbrev pub report_in : Layout → Provable → ℕ → List ℕ
report_in layout p lines = laid_out layout (parts_of p lines)

abbrev pub reported : Layout → Provable → ℕ → Reply
reported layout p lines = printing (status_of (is_closed p.goals)) (report_in layout p lines)

-- refused: leaf I: power
abbrev pub power_refused : ℕ → Reply
power_refused i = refusal (codes "leaf " ++ (decimal i ++ codes ": power"))

-- the leaves of a provable as a script for a solver, or the first of them that has no text
abbrev pub script_or_refusal : Option ℕ → Provable → Reply
script_or_refusal (Some i) p = power_refused i
script_or_refusal None p = printing (status_of (is_closed p.goals)) (leaves_lines 1 p.leaves)

abbrev pub exported : Provable → Reply
exported p = script_or_refusal (first_power 1 p.leaves) p

-- what is summed up of a provable that so many lines have shown, of a model of n assignments: generated N, lines N, leaves N, and the first line of
-- the report
abbrev pub summary : ℕ → Provable → ℕ → List ℕ
summary n p lines =
    line (codes "generated " ++ decimal n)
    ++ (line (codes "lines " ++ decimal lines) ++ (line (codes "leaves " ++ decimal (length p.leaves)) ++ line (first_word (is_closed p.goals))))

abbrev pub summed : ℕ → Provable → ℕ → Reply
summed n p lines = printing Done (summary n p lines)

-- what is shown of a provable that so many lines have shown
abbrev pub answered : Showing → Provable → ℕ → Reply
answered (Reported layout) p lines = reported layout p lines
answered Exported p lines = exported p
answered (Summed n) p lines = summed n p lines

-- Checks showing model term reply: this is what is answered to the model and the term.
pub data Checks (showing : Showing) (model term : List ℕ) : Reply → Type 0 where
  refuses : (reply : Reply) → RefusesTerm model term reply → Checks showing model term reply
  reports : (steps : List Step) (rows : List Provable) (p : Provable) → TakesTerm model term steps rows p →
      Checks showing model term (answered showing p (length rows))
