use Rattle.std.proofs.Common.{map, sym, ◌∙◌, subst, arith}
use Rattle.std.proofs.lemmas.List.{length-map}
use Rattle.std.proofs.lemmas.Result.{IfOk-weaker, IfErr-weaker}
use Rattle.dlk_calculus.specs.Places.{At}
use Rattle.dlk_calculus.specs.Provables.{Provable}
use Rattle.dlk_kernel.specs.Kernel.{facts, provable_at}
use Rattle.dlk_replies.specs.Ended.{EndsIn}
use Rattle.dlk_replies.specs.Replies.{Reply}
use Rattle.dlk_replies.proofs.Ends.{ends_weaker}
use Rattle.dlk_replies.specs.Shown.{reply_of}
use Rattle.dlk_rules.specs.Steps.{step_at}
use Rattle.dlk_jobs_record.specs.Records.{Records}
use Rattle.dlk_jobs_record.proofs.TakenRows.{taken_count}
use Rattle.dlk_jobs_terms.specs.Made.{RecordsLast}
use Rattle.dlk_jobs_terms.proofs.EndLaws.{some_ending}
use Rattle.dlk_jobs_terms.proofs.taken.record_taken.Goals as goal

pub finish-requires-clause-fact : goal.finish-requires-clause-fact
finish-requires-clause-fact g c =
    let trees = g.S.Store.trees in
    let kernel = c.args.kernel.now in
    let made = map (step_at (trees kernel.store)) c.args.made.now in
    let count = taken_count made (facts trees kernel) c.requires.takes in
    let size = length-map kernel.rows (provable_at (trees kernel.store)) in
    let long = length-map c.args.made.now (step_at (trees kernel.store)) in
    (omega (arith, count, size, long, c.requires.some, c.rows.ensures.count), omega (arith, c.rows.ensures.count))

pub finish-requires-clause-few : goal.finish-requires-clause-few
finish-requires-clause-few g c =
    let trees = g.S.Store.trees in
    let kernel = c.args.kernel.now in
    let made = map (step_at (trees kernel.store)) c.args.made.now in
    let count = taken_count made (facts trees kernel) c.requires.takes in
    sym (length-map c.args.made.now (step_at (trees kernel.store))) ∙ count ∙ length-map kernel.rows (provable_at (trees kernel.store))

pub returns-clause-reply : goal.returns-clause-reply
returns-clause-reply g c =
    let trees = g.S.Store.trees in
    let kernel = c.args.kernel.now in
    let rows = facts trees kernel in
    let made = map (step_at (trees kernel.store)) c.args.made.now in
    let size = length-map kernel.rows (provable_at (trees kernel.store)) in
    let long = length-map c.args.made.now (step_at (trees kernel.store)) in
    let ends = some_ending made rows c.requires.takes (omega (arith, long, c.requires.some)) in
    let there : At (facts trees kernel) c.rows.result ends.0 = subst (λ n. At rows n ends.0) (size ∙ sym c.rows.ensures.count) ends.2 in
    IfOk-weaker c.finish.result (λ r. (p : Provable) → At rows c.rows.result p → Records made p (reply_of r)) (λ r. RecordsLast made (reply_of r))
    (λ r says. (ends.0, ends.1, says ends.0 there)) c.finish.ensures.reply

pub returns-clause-ended : goal.returns-clause-ended
returns-clause-ended g c =
    let trees = g.S.Store.trees in
    let kernel = c.args.kernel.now in
    let made = map (step_at (trees kernel.store)) c.args.made.now in
    let long = length-map c.args.made.now (step_at (trees kernel.store)) in
    let ends = some_ending made (facts trees kernel) c.requires.takes (omega (arith, long, c.requires.some)) in
    let IsRecord : Reply → Type 0 = λ reply. (p : Provable) → Records made p reply in
    IfErr-weaker c.finish.result (EndsIn IsRecord) (EndsIn (RecordsLast made))
    (ends_weaker IsRecord (RecordsLast made) (λ reply says. (ends.0, ends.1, says ends.0))) c.finish.ensures.ended
