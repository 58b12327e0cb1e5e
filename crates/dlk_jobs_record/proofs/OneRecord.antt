-- There is one answer to steps that show a provable, and it writes a term or refuses.
use Rattle.std.proofs.Common.{◌≡◌, List, length, refl, inl, inr, arith}
use Rattle.std.proofs.lemmas.Bool.{cases_lt}
use Rattle.dlk_calculus.specs.Provables.{Provable}
use Rattle.dlk_calculus.specs.Steps.{Step}
use Rattle.dlk_report.specs.Reports.{is_closed}
use Rattle.dlk_recorder.specs.Terms.{term_text}
use Rattle.dlk_replies.specs.declared.form.Role.TheVariants.{Term}
use Rattle.dlk_replies.specs.Forms.{limit_of}
use Rattle.dlk_replies.specs.Replies.{Reply, code_of}
use Rattle.dlk_jobs_record.specs.Records.{term_too_long, recorded, Records, too_long, writes, WritesUnlessRefused}
use Rattle.dlk_jobs_record.proofs.CarriedOut.{no_refusal}

pub one_record : (steps : List Step) (p : Provable) (r s : Reply) → Records steps p r → Records steps p s → r ≡ s
one_record steps p _ _ (too_long long) (too_long also) = refl
one_record steps p _ _ (too_long long) (writes short) = absurd (omega (arith, long, short))
one_record steps p _ _ (writes short) (too_long long) = absurd (omega (arith, long, short))
one_record steps p _ _ (writes short) (writes also) = refl

pub some_record : (steps : List Step) (p : Provable) → (reply : Reply) × Records steps p reply
some_record steps p = elim (cases_lt (limit_of Term) (length (term_text steps))) [
  | inl long ↦ (term_too_long (length (term_text steps)), too_long long)
  | inr short ↦ (recorded p steps, writes short)
]

pub whole_record : (steps : List Step) (p : Provable) (reply : Reply) → Records steps p reply → WritesUnlessRefused reply
whole_record steps p _ (too_long long) = inl (refl, refl)
whole_record steps p _ (writes short) = inr ((λ e. no_refusal (is_closed p.goals) (λ i. code_of (e i))), term_text steps, refl)
