-- The rows of steps that are taken in turn.
use Rattle.std.proofs.Common.{◌≡◌, ◌∙◌, ◌≤◌, ◌+◌, List, [], length, refl, sym, ap, arith}
use Rattle.std.proofs.lemmas.List.{length_push}
use Rattle.dlk_calculus.specs.Provables.{Provable}
use Rattle.dlk_calculus.specs.Steps.{Step}
use Rattle.dlk_kernel.specs.Taken.{Takes, none, more}
use Rattle.dlk_jobs_record.specs.Records.{IsLast}

-- as many rows as steps
pub taken_count : (steps : List Step) (rows : List Provable) → Takes [] steps rows → length steps ≡ length rows
taken_count _ _ none = refl
taken_count _ _ (more {steps} {mid} {step} {p} before is) = length_push steps step ∙ ap (λ n. n + 1) (taken_count steps mid before) ∙ sym (length_push mid p)

-- where there is a last row there is a step
pub some_steps : (steps : List Step) (rows : List Provable) (p : Provable) → Takes [] steps rows → IsLast rows p → 1 ≤ length steps
some_steps steps rows p takes last = omega (arith, taken_count steps rows takes, ap length last.rows_are, length_push last.before p)
