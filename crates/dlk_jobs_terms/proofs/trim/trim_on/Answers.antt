use Rattle.std.proofs.Common.{IfOk, IfErr, [], length, map, ap, sym, subst, arith}
use Rattle.std.proofs.lemmas.List.{length-map}
use Rattle.std.proofs.lemmas.Result.{IfOk-weaker, IfErr-weaker, err_from_is_err_and}
use Rattle.dlk_kernel.specs.Kernel.{facts}
use Rattle.dlk_kernel.specs.Taken.{Takes}
use Rattle.dlk_link.proofs.InTurn.{ends_some}
use Rattle.dlk_replies.specs.Ended.{EndsIn}
use Rattle.dlk_replies.specs.Shown.{reply_of}
use Rattle.dlk_replies.proofs.Ends.{ends_weaker}
use Rattle.dlk_rules.specs.Steps.{step_at}
use Rattle.dlk_jobs_check.specs.Terms.{RefusesTerm}
use Rattle.dlk_jobs_terms.specs.Made.{RecordsLast}
use Rattle.dlk_jobs_terms.specs.Trims.{Trims, refuses, trims}
use Rattle.dlk_jobs_terms.proofs.EndLaws.{replay_takes, replay_ends, kept_ends}
use Rattle.dlk_jobs_terms.proofs.Staying.{still_same}
use Rattle.dlk_jobs_terms.proofs.trim.trim_on.Goals as goal

pub trim-requires-clause-taken : goal.trim-requires-clause-taken
trim-requires-clause-taken g c =
    let trees = g.S.Store.trees in
    let kernel = c.taken.new.kernel in
    let whole = c.in_ok-whole.ensures.taken in
    replay_takes c.accepted_says_steps.ensures.taken c.args.term.now (map (step_at (trees kernel.store)) c.in_ok-whole.whole.items) (facts trees kernel) whole.0
    whole.1.replays

pub trim-requires-clause-some : goal.trim-requires-clause-some
trim-requires-clause-some g c =
    let trees = g.S.Store.trees in
    let kernel = c.taken.new.kernel in
    let whole = c.in_ok-whole.ensures.taken in
    let steps = map (step_at (trees kernel.store)) c.in_ok-whole.whole.items in
    let ends = replay_ends c.accepted_says_steps.ensures.taken c.args.term.now steps (facts trees kernel) whole.0 whole.1.replays in
    omega (arith, ends_some steps whole.0 ends, length-map c.in_ok-whole.whole.items (step_at (trees kernel.store)))

pub returns-in_err-whole-clause-ended : goal.returns-in_err-whole-clause-ended
returns-in_err-whole-clause-ended g c =
    let model = c.args.model.now in
    let term = c.args.term.now in
    let p = err_from_is_err_and c.from_residual.result c.from_residual.ensures.1 in
    rw (p.1, p.2) (ends_weaker (RefusesTerm model term) (Trims model term) refuses _ c.in_err-whole.ensures.refused)

pub record_taken-requires-clause-some : goal.record_taken-requires-clause-some
record_taken-requires-clause-some g c =
    let trees = g.S.Store.trees c.taken.new.kernel.store in
    let rows = facts g.S.Store.trees c.taken.new.kernel in
    let term = c.args.term.now in
    let taken = c.in_ok-whole.ensures.taken in
    let whole = map (step_at trees) c.in_ok-whole.whole.items in
    let kept = c.in-Ok.kept.items in
    let ends = replay_ends c.accepted_says_steps.ensures.taken term whole rows taken.0 taken.1.replays in
    let made = map (step_at trees) kept in
    let some = ends_some made taken.0 (kept_ends c.trimmed_is_taken.ensures.last whole made taken.0 ends c.in-Ok.ensures.trimmed) in
    omega (arith, some, length-map kept (step_at trees), ap length c.deref.ensures.value)

pub record_taken-requires-clause-takes : goal.record_taken-requires-clause-takes
record_taken-requires-clause-takes g c =
    let trees = g.S.Store.trees in
    let old = c.taken.new.kernel.store in
    let new = c.trim.new.kernel.store in
    let keeps = g.met.S.Store.grows_keeps old new c.trim.ensures.grows in
    let kept = c.in-Ok.kept.items in
    let same = still_same c.step_stays.ensures.known c.step_stays.ensures.same (trees old) (trees new) keeps kept c.in-Ok.ensures.known in
    subst (λ l. Takes [] (map (step_at (trees new)) l) (facts trees c.trim.new.kernel)) (sym c.deref.ensures.value)
    (subst (λ l. Takes [] l (facts trees c.trim.new.kernel)) (sym same) c.in-Ok.ensures.rows)

pub returns-clause-reply : goal.returns-clause-reply
returns-clause-reply g c =
    let trees = g.S.Store.trees in
    let old = c.taken.new.kernel.store in
    let new = c.trim.new.kernel.store in
    let keeps = g.met.S.Store.grows_keeps old new c.trim.ensures.grows in
    let kept = c.in-Ok.kept.items in
    let same = still_same c.step_stays.ensures.known c.step_stays.ensures.same (trees old) (trees new) keeps kept c.in-Ok.ensures.known in
    let taken = c.in_ok-whole.ensures.taken in
    let whole = map (step_at (trees old)) c.in_ok-whole.whole.items in
    let rows = facts trees c.taken.new.kernel in
    let left = c.in-Ok.ensures.trimmed in
    let made = map (step_at (trees old)) kept in
    IfOk-weaker c.record_taken.result (λ r. RecordsLast made (reply_of r)) (λ r. Trims c.args.model.now c.args.term.now (reply_of r))
    (λ r says. trims whole rows taken.0 taken.1 made left (reply_of r) says)
    (subst (λ l. IfOk c.record_taken.result (λ r. RecordsLast l (reply_of r))) same (rw c.deref.ensures.value at c.record_taken.ensures.reply))

pub returns-clause-ended : goal.returns-clause-ended
returns-clause-ended g c =
    let model = c.args.model.now in
    let term = c.args.term.now in
    let trees = g.S.Store.trees in
    let old = c.taken.new.kernel.store in
    let new = c.trim.new.kernel.store in
    let keeps = g.met.S.Store.grows_keeps old new c.trim.ensures.grows in
    let kept = c.in-Ok.kept.items in
    let same = still_same c.step_stays.ensures.known c.step_stays.ensures.same (trees old) (trees new) keeps kept c.in-Ok.ensures.known in
    let taken = c.in_ok-whole.ensures.taken in
    let whole = map (step_at (trees old)) c.in_ok-whole.whole.items in
    let rows = facts trees c.taken.new.kernel in
    let left = c.in-Ok.ensures.trimmed in
    let made = map (step_at (trees old)) kept in
    IfErr-weaker c.record_taken.result (EndsIn (RecordsLast made)) (EndsIn (Trims model term))
    (ends_weaker (RecordsLast made) (Trims model term) (λ reply says. trims whole rows taken.0 taken.1 made left reply says))
    (subst (λ l. IfErr c.record_taken.result (EndsIn (RecordsLast l))) same (rw c.deref.ensures.value at c.record_taken.ensures.ended))
