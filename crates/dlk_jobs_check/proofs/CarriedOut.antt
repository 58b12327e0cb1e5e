-- What `check`, `report`, `smt` and `guard` answer is carried out.
use Rattle.std.proofs.Common.{◌<◌, ℕ, Bool, true, false, List, ◌++◌, length, Option, Some, None, arith}
use Rattle.dlk_calculus.specs.Provables.{Provable}
use Rattle.dlk_smt.specs.Smt.{first_power}
use Rattle.dlk_report.specs.Reports.{is_closed}
use Rattle.dlk_replies.specs.declared.form.Role.TheVariants.{Model}
use Rattle.dlk_replies.specs.declared.reply.Showing.{Showing}
use Rattle.dlk_replies.specs.declared.reply.Showing.TheVariants.{Reported, Exported, Summed}
use Rattle.dlk_replies.specs.declared.reply.Layout.TheVariants.{Text}
use Rattle.dlk_replies.specs.Replies.{Reply, code_of}
use Rattle.dlk_replies.proofs.CarriedOut.{IsCarriedOut, printed_only, text_carried_out}
use Rattle.dlk_jobs_check.specs.Terms.{RefusesTerm, bad_model, bad_line, bad_conclusion}
use Rattle.dlk_jobs_check.specs.Checks.{Checks, refuses, reports, status_of, answered, reported, script_or_refusal}
use Rattle.dlk_jobs_check.specs.Guards.{Guards, refuses as refuses_term, guards}

pub closed_or_open : (b : Bool) → code_of (status_of b) < 3
closed_or_open true = omega arith
closed_or_open false = omega arith

exported_carried_out : (first : Option ℕ) (p : Provable) → IsCarriedOut (script_or_refusal first p)
exported_carried_out (Some i) p = printed_only _ _ (omega arith)
exported_carried_out None p = printed_only _ _ (closed_or_open (is_closed p.goals))

answered_carried_out : (showing : Showing) (p : Provable) (lines : ℕ) → IsCarriedOut (answered showing p lines)
answered_carried_out (Reported layout) p lines = printed_only _ _ (closed_or_open (is_closed p.goals))
answered_carried_out Exported p lines = exported_carried_out (first_power 1 p.leaves) p
answered_carried_out (Summed n) p lines = printed_only _ _ (omega arith)

pub refusal_carried_out : (model term : List ℕ) (reply : Reply) → RefusesTerm model term reply → IsCarriedOut reply
refusal_carried_out model term reply (bad_model why fault) = text_carried_out Model why
refusal_carried_out model term reply (bad_line f t n why v) = printed_only _ _ (omega arith)
refusal_carried_out model term reply (bad_conclusion f t rows p a ne) = printed_only _ _ (omega arith)

pub check_carried_out : (showing : Showing) (model term : List ℕ) (reply : Reply) → Checks showing model term reply → IsCarriedOut reply
check_carried_out showing model term reply (refuses r refused) = refusal_carried_out model term r refused
check_carried_out showing model term reply (reports steps rows p t) = answered_carried_out showing p (length rows)

pub guard_carried_out : (model term : List ℕ) (reply : Reply) → Guards model term reply → IsCarriedOut reply
guard_carried_out model term reply (refuses_term r refused) = refusal_carried_out model term r refused
guard_carried_out model term reply (guards steps rows p t said says) =
    let report = reported Text p (length rows) in printed_only report.status (said ++ report.printed) (closed_or_open (is_closed p.goals))
