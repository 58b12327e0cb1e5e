-- Whether goals are left.
use Rattle.std.proofs.Common.{◌≡◌, ℕ, List, [], ◌∷◌, length, refl, arith}
use Rattle.dlk_calculus.specs.Sequents.{Sequent}
use Rattle.dlk_report.specs.Reports.{is_closed}
use Rattle.dlk_replies.specs.declared.reply.Status.TheVariants.{Closed, Open}
use Rattle.dlk_jobs_check.specs.Checks.{status_of}

pub closed_now : (goals : List Sequent) (n : ℕ) → n ≡ length goals → n ≡ 0 → Closed ≡ status_of (is_closed goals)
closed_now [] n e z = refl
closed_now (g ∷ gs) n e z = absurd (omega (arith, e, z))

pub open_now : (goals : List Sequent) (n : ℕ) → n ≡ length goals → (n ≡ 0 → ⊥) → Open ≡ status_of (is_closed goals)
open_now [] n e z = absurd (z e)
open_now (g ∷ gs) n e z = refl
