-- From what a recorder and a report answer to what is answered by a command that writes a term.
use Rattle.std.proofs.Common.{◌≡◌, ◌<◌, ◌≤◌, ℕ, List, length, Some, sym, subst, ap, ◌∙◌}
use Rattle.dlk_calculus.specs.Provables.{Provable}
use Rattle.dlk_calculus.specs.Steps.{Step}
use Rattle.dlk_recorder.specs.Terms.{term_text}
use Rattle.dlk_replies.specs.declared.form.Role.TheVariants.{Term}
use Rattle.dlk_replies.specs.declared.reply.Layout.TheVariants.{Text}
use Rattle.dlk_replies.specs.Forms.{limit_of}
use Rattle.dlk_replies.specs.Replies.{Reply}
use Rattle.dlk_jobs_check.specs.Checks.{reported}
use Rattle.dlk_jobs_record.specs.Records.{term_too_long, recorded, Records, too_long, writes}

-- a term file that would be too long
pub long_answer : (steps : List Step) (p : Provable) (bytes : ℕ) (reply : Reply) → bytes ≡ length (term_text steps) → limit_of Term < length (term_text steps) →
    reply ≡ term_too_long bytes → Records steps p reply
long_answer steps p bytes reply bytes_are long is = subst (Records steps p) (sym (is ∙ ap term_too_long bytes_are)) (too_long long)

-- a term file with the report of the last row
pub short_answer : (steps : List Step) (p : Provable) (lines : ℕ) (report : Reply) (term : List ℕ) → report ≡ reported Text p lines → lines ≡ length steps →
    term ≡ term_text steps → length (term_text steps) ≤ limit_of Term →
    Records steps p (record { status = report.status; printed = report.printed; written = Some term })
short_answer steps p lines report term is lines_are term_is short =
    let shown : report ≡ reported Text p (length steps) = is ∙ ap (λ n. reported Text p n) lines_are in
    let whole : record { status = report.status; printed = report.printed; written = Some term } ≡ recorded p steps =
    λ i. record { status = (shown i).status; printed = (shown i).printed; written = Some (term_is i) } in
    subst (Records steps p) (sym whole) (writes short)
