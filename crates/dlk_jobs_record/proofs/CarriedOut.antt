-- What is answered by a command that writes a term is carried out.
use Rattle.std.proofs.Common.{◌≡◌, Bool, true, false, List, arith}
use Rattle.dlk_calculus.specs.Provables.{Provable}
use Rattle.dlk_calculus.specs.Steps.{Step}
use Rattle.dlk_report.specs.Reports.{is_closed}
use Rattle.dlk_replies.specs.Replies.{Reply, code_of}
use Rattle.dlk_replies.proofs.CarriedOut.{IsCarriedOut, printed_only}
use Rattle.dlk_jobs_check.specs.Checks.{status_of}
use Rattle.dlk_jobs_check.proofs.CarriedOut.{closed_or_open}
use Rattle.dlk_jobs_record.specs.Records.{Records, too_long, writes}

pub no_refusal : (b : Bool) → code_of (status_of b) ≡ 2 → ⊥
no_refusal true e = omega (arith, e)
no_refusal false e = omega (arith, e)

pub record_carried_out : (steps : List Step) (p : Provable) (reply : Reply) → Records steps p reply → IsCarriedOut reply
record_carried_out steps p reply (too_long long) = printed_only _ _ (omega arith)
record_carried_out steps p reply (writes short) = record {
  status = closed_or_open (is_closed p.goals);
  refusal = λ e. absurd (no_refusal (is_closed p.goals) e);
}
