use Rattle.std.proofs.Common.{◌≡◌, length, map, sym, ◌∙◌, arith}
use Rattle.std.proofs.lemmas.List.{length-map}
use Rattle.std.proofs.lemmas.Result.{IfOk-weaker}
use Rattle.dlk_calculus.specs.Provables.{Provable}
use Rattle.dlk_rules.specs.Steps.{step_at}
use Rattle.dlk_replies.specs.Shown.{reply_of}
use Rattle.dlk_replies.proofs.Ends.{ends_so}
use Rattle.dlk_jobs_record.specs.Records.{term_too_long, Records}
use Rattle.dlk_jobs_record.proofs.RecordAnswers.{long_answer, short_answer}
use Rattle.dlk_jobs_record.proofs.finishing.finish.Goals as goal

pub returns-in-TooLong-clause-ended : goal.returns-in-TooLong-clause-ended
returns-in-TooLong-clause-ended g c =
    let steps = map (step_at (g.S.Store.trees c.args.kernel.now.store)) c.args.taken.now in
    let recorded = rw c.in-TooLong.is at c.in_ok-term.ensures in
    ends_so (λ reply. (p : Provable) → Records steps p reply) c.refuse_length.result c.end_by.result c.end_by.ensures
    (IfOk-weaker c.refuse_length.result (λ r. reply_of r ≡ term_too_long c.in-TooLong.bytes) (λ r. (p : Provable) → Records steps p (reply_of r))
    (λ r is p. long_answer steps p c.in-TooLong.bytes (reply_of r) recorded.0 (omega (arith, recorded.1, c.limit.ensures.limit)) is) c.refuse_length.ensures)

pub returns-clause-reply : goal.returns-clause-reply
returns-clause-reply g c = λ p there.
    let taken = c.args.taken.now in
    let trees = g.S.Store.trees c.args.kernel.now.store in
    let recorded = rw c.in-Whole.is at c.in_ok-term.ensures in
    let lines : c.rows-lines.result ≡ length (map (step_at trees) taken) = c.rows-lines.ensures.count ∙ sym c.requires.few
    ∙ sym (length-map taken (step_at trees)) in
    short_answer (map (step_at trees) taken) p c.rows-lines.result (reply_of c.in_ok-reply.reply) c.in-Whole.term.items (c.in_ok-reply.ensures p there) lines
    recorded.0 (omega (arith, recorded.1, c.limit.ensures.limit))
