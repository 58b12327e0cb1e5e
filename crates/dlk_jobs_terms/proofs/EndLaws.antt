-- The ends of proofs, and those of terms.
use Rattle.std.proofs.Common.{◌≡◌, ℕ, ◌+◌, ◌≤◌, List, [], ◌∷◌, ◌++◌, length, length-append, map, ap, subst, ◌∙◌, arith}
use Rattle.dlk_calculus.specs.Places.{At}
use Rattle.dlk_calculus.specs.Provables.{Provable}
use Rattle.dlk_calculus.specs.Steps.{Step}
use Rattle.dlk_calculus.proofs.PlaceLaws.{at_one}
use Rattle.dlk_kernel.specs.Taken.{Takes}
use Rattle.dlk_link.specs.Ends.{EndsIn}
use Rattle.dlk_link.specs.Kept.{ShowsSame}
use Rattle.dlk_link.specs.Links.{Links as AreLinked}
use Rattle.dlk_link.specs.Trimmed.{Trimmed}
use Rattle.dlk_link.proofs.InTurn.{ends_some}
use Rattle.dlk_link.proofs.LinkedSteps.{one_end}
use Rattle.dlk_replay.specs.Files.{file_lines, accepted, Verdict, bad, FileSteps}
use Rattle.dlk_replay.specs.declared.fault.LineWhy.{LineWhy}
use Rattle.dlk_replay.proofs.Verdicts.{one_verdict}
use Rattle.dlk_replies.specs.Replies.{Reply}
use Rattle.dlk_rules.specs.Facts.{renumbered}
use Rattle.dlk_jobs_check.specs.Terms.{refused_line, Accepts, Replays}
use Rattle.dlk_jobs_check.proofs.Ends.{last_of, last_item}
use Rattle.dlk_jobs_record.specs.Records.{Records, IsLast}
use Rattle.dlk_jobs_record.proofs.OneRecord.{one_record}
use Rattle.dlk_jobs_record.proofs.TakenRows.{taken_count}
use Rattle.dlk_jobs_terms.specs.Made.{RecordsLast}
use Rattle.dlk_elab.proofs.MainGoals.{some_items}

-- what stands at the last place is the last
pub last_is : (rows : List Provable) (p : Provable) → At rows (length rows) p → IsLast rows p
last_is rows p there =
    let last = last_of rows (some_items rows p there) in
    let same : last.1 ≡ p = at_one rows (length rows) last.1 p (last_item rows last.0 last.1 last.2) there in
    record { before = last.0; rows_are = last.2 ∙ ap (λ x. last.0 ++ x ∷ []) same }

-- steps end in one provable
pub one_ending : (steps : List Step) (p q : Provable) → EndsIn steps p → EndsIn steps q → p ≡ q
one_ending steps p q e f = at_one f.rows (length f.rows) p q (one_end steps p e f.rows f.takes) f.last

-- and one thing is recorded of them
pub one_made : (steps : List Step) (r s : Reply) → RecordsLast steps r → RecordsLast steps s → r ≡ s
one_made steps r s (p, e, a) (q, f, b) =
    one_record steps p r s a (subst (λ (x : Provable). Records steps x s) (one_ending steps q p f e) b)

-- the steps of a replayed term are taken and end in its last row
abbrev pub SaysSteps : Type 0
SaysSteps = (lines : List (List ℕ)) (rows : List Provable) (last : ℕ) (steps : List Step) → Verdict lines (accepted rows last) → FileSteps lines steps →
    Takes [] steps rows

pub replay_takes : SaysSteps → (term : List ℕ) (steps : List Step) (rows : List Provable) (p : Provable) → Replays term steps rows p → Takes [] steps rows
replay_takes says term steps rows p r = says (file_lines term) rows r.accepts.line steps r.accepts.verdict r.says

pub replay_last : (term : List ℕ) (steps : List Step) (rows : List Provable) (p : Provable) → Replays term steps rows p → At rows (length rows) p
replay_last term steps rows p r = last_item rows r.accepts.before p r.accepts.last

pub replay_ends : SaysSteps → (term : List ℕ) (steps : List Step) (rows : List Provable) (p : Provable) → Replays term steps rows p → EndsIn steps p
replay_ends says term steps rows p r =
    record { rows = rows; takes = replay_takes says term steps rows p r; last = replay_last term steps rows p r }

-- an accepted term has no wrong line, and any other has one
pub accepted_or_bad : (term : List ℕ) (rows : List Provable) (p : Provable) (n : ℕ) (why : LineWhy) → Accepts term rows p →
    Verdict (file_lines term) (bad n why) → ⊥
accepted_or_bad term rows p n why a v = absurd_answer (one_verdict (file_lines term) (accepted rows a.line) (bad n why) a.verdict v)
  where
    absurd_answer : accepted rows a.line ≡ bad n why → ⊥
    absurd_answer e = cc

pub one_bad_line : (words term : List ℕ) (n m : ℕ) (why other : LineWhy) → Verdict (file_lines term) (bad n why) → Verdict (file_lines term) (bad m other) →
    refused_line words n why ≡ refused_line words m other
one_bad_line words term n m why other v w = same (one_verdict (file_lines term) (bad n why) (bad m other) v w)
  where
    same : bad n why ≡ bad m other → refused_line words n why ≡ refused_line words m other
    same e =
        let number : n ≡ m = cc in
        let reason : why ≡ other = cc in
        λ i. refused_line words (number i) (reason i)

-- steps that are taken, at least one, end in a provable
pub some_ending : (steps : List Step) (rows : List Provable) → Takes [] steps rows → 1 ≤ length steps →
    (p : Provable) × EndsIn steps p × At rows (length rows) p
some_ending steps rows takes some =
    let last = last_of rows (omega (arith, some, taken_count steps rows takes)) in
    let there = last_item rows last.0 last.1 last.2 in
    (last.1, record { rows = rows; takes = takes; last = there }, there)

-- what is kept of steps ends as they do
abbrev pub KeptShows : Type 0
KeptShows = (term kept : List Step) (rows : List Provable) → Takes [] term rows → 1 ≤ length term → Trimmed term kept → ShowsSame rows kept

pub kept_ends : KeptShows → (steps kept : List Step) (p : Provable) → EndsIn steps p → Trimmed steps kept → EndsIn kept p
kept_ends shows steps kept p e left =
    let same = shows steps kept e.rows e.takes (ends_some steps p e) left in
    record { rows = same.kept_rows; takes = same.takes; last = same.same p e.last }

-- linked steps are some
pub linked_some : (steps others linked : List Step) (p q : Provable) → EndsIn steps p → EndsIn others q → AreLinked steps others linked → 1 ≤ length linked
linked_some steps others linked p q e f are =
    let is = (are p q e f).1 in
    let behind = map (renumbered (λ fact. fact + length steps)) others in
    let some = ends_some steps p e in
    let whole = ap length is.steps_are in
    omega (arith, some, whole, length-append (steps ++ behind) is.joins, length-append steps behind)
