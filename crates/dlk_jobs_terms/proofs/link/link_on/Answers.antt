use Rattle.std.proofs.Common.{IfOk, IfErr, [], length, map, ap, sym, subst, ◌∙◌, codes, arith}
use Rattle.std.proofs.lemmas.List.{length-map}
use Rattle.std.proofs.lemmas.Result.{IfOk-weaker, IfErr-weaker, err_from_is_err_and}
use Rattle.dlk_calculus.specs.Provables.{Provable}
use Rattle.dlk_kernel.specs.Kernel.{facts}
use Rattle.dlk_kernel.specs.Taken.{Takes}
use Rattle.dlk_replies.specs.Ended.{EndsIn}
use Rattle.dlk_replies.specs.Shown.{reply_of}
use Rattle.dlk_replies.proofs.Ends.{ends_weaker, ends_so}
use Rattle.dlk_rules.specs.Steps.{step_at}
use Rattle.dlk_sequent.proofs.Kept.{IsId-kept}
use Rattle.dlk_jobs_check.specs.Judged.{RefusesModel, RefusesLine}
use Rattle.dlk_jobs_check.proofs.Judging.{model_refuses}
use Rattle.dlk_jobs_check.specs.Terms.{RefusesTerm}
use Rattle.dlk_jobs_terms.specs.Links.{Links, refuses}
use Rattle.dlk_jobs_terms.specs.Made.{RecordsLast}
use Rattle.dlk_jobs_terms.specs.Refused.{IsLinkRefused}
use Rattle.dlk_jobs_terms.proofs.EndLaws.{one_ending, replay_takes, replay_ends, linked_some}
use Rattle.dlk_jobs_terms.proofs.JobAnswers.{lemma_answer, link_answer, fault_answer}
use Rattle.dlk_jobs_terms.proofs.Staying.{still_same, lemma_stays, model_stays}
use Rattle.dlk_jobs_terms.proofs.link.link_on.Goals as goal

pub returns-in_err-formula-clause-ended : goal.returns-in_err-formula-clause-ended
returns-in_err-formula-clause-ended g c =
    let model = c.args.model.now in
    let term = c.args.term.now in
    let lemma = c.args.lemma.now in
    let p = err_from_is_err_and c.from_residual.result c.from_residual.ensures.1 in
    rw (p.1, p.2) (ends_weaker (RefusesModel model) (Links model term lemma) (λ reply is. refuses reply (model_refuses model term reply is)) _
    c.in_err-formula.ensures.refused)

pub taken_for-requires-clause-formula : goal.taken_for-requires-clause-formula
taken_for-requires-clause-formula g c =
    let read = c.read_model.new.store.store in
    let here = c.taken_lemma-lemma.new.kernel.store in
    IsId-kept (g.met.S.Store.grows_keeps read here c.taken_lemma-lemma.ensures.grows) c.in_ok-formula.formula c.in_ok-formula.ensures.found.2.known

pub returns-in_err-main-clause-ended : goal.returns-in_err-main-clause-ended
returns-in_err-main-clause-ended g c =
    let model = c.args.model.now in
    let term = c.args.term.now in
    let lemma = c.args.lemma.now in
    let here = c.taken_lemma-lemma.new.kernel.store in
    let held = g.met.S.Store.grows_keeps c.read_model.new.store.store here c.taken_lemma-lemma.ensures.grows in
    let reads = model_stays held c.in_ok-formula.ensures.found in
    let p = err_from_is_err_and c.from_residual-in_err-main.result c.from_residual-in_err-main.ensures.1 in
    rw (p.1, p.2) (ends_weaker (RefusesTerm model term) (Links model term lemma) refuses _ (c.in_err-main.ensures.refused model reads))

pub returns-in_err-by-clause-ended : goal.returns-in_err-by-clause-ended
returns-in_err-by-clause-ended g c =
    let model = c.args.model.now in
    let term = c.args.term.now in
    let lemma = c.args.lemma.now in
    let rows = facts g.S.Store.trees c.taken_for.new.kernel in
    let here = c.taken_lemma-lemma.new.kernel.store in
    let held = g.met.S.Store.grows_keeps c.read_model.new.store.store here c.taken_lemma-lemma.ensures.grows in
    let reads = model_stays held c.in_ok-formula.ensures.found in
    let main = c.in_ok-main.ensures.taken model reads in
    let steps = map (step_at (g.S.Store.trees c.taken_for.new.kernel.store)) c.in_ok-main.main.items in
    let p = err_from_is_err_and c.from_residual-in_err-by.result c.from_residual-in_err-by.ensures.1 in
    rw (p.1, p.2) (ends_weaker (RefusesLine (codes "lemma line") lemma) (Links model term lemma) (lemma_answer model term lemma steps rows main.0 main.1) _
    (rw c.in_err-by.was at c.taken_lemma-lemma.ensures.refused))

pub link-requires-clause-taken : goal.link-requires-clause-taken
link-requires-clause-taken g c =
    let trees = g.S.Store.trees in
    let kernel = c.taken_for.new.kernel in
    let here = c.taken_lemma-lemma.new.kernel.store in
    let held = g.met.S.Store.grows_keeps c.read_model.new.store.store here c.taken_lemma-lemma.ensures.grows in
    let reads = model_stays held c.in_ok-formula.ensures.found in
    let main = c.in_ok-main.ensures.taken c.args.model.now reads in
    replay_takes c.accepted_says_steps.ensures.taken c.args.term.now (map (step_at (trees kernel.store)) c.in_ok-main.main.items) (facts trees kernel) main.0
    main.1.replays

pub link-requires-clause-term_ends : goal.link-requires-clause-term_ends
link-requires-clause-term_ends g c =
    let trees = g.S.Store.trees in
    let kernel = c.taken_for.new.kernel in
    let here = c.taken_lemma-lemma.new.kernel.store in
    let held = g.met.S.Store.grows_keeps c.read_model.new.store.store here c.taken_lemma-lemma.ensures.grows in
    let reads = model_stays held c.in_ok-formula.ensures.found in
    let main = c.in_ok-main.ensures.taken c.args.model.now reads in (
      main.0,
      replay_ends c.accepted_says_steps.ensures.taken c.args.term.now (map (step_at (trees kernel.store)) c.in_ok-main.main.items) (facts trees kernel)
          main.0 main.1.replays,
    )

pub link-requires-clause-lemma_known : goal.link-requires-clause-lemma_known
link-requires-clause-lemma_known g c =
    let trees = g.S.Store.trees in
    let old = c.taken_lemma-lemma.new.kernel.store in
    let kernel = c.taken_for.new.kernel in
    let new = kernel.store in
    let keeps = g.met.S.Store.grows_keeps old new c.taken_for.ensures.grows in
    let by = lemma_stays c.step_stays.ensures.known c.step_stays.ensures.same (trees old) (trees new) keeps c.args.lemma.now c.in_ok-by.by
    (rw c.in_ok-by.was at c.taken_lemma-lemma.ensures.lemma) in
    by.steps_known

pub link-requires-clause-lemma_ends : goal.link-requires-clause-lemma_ends
link-requires-clause-lemma_ends g c =
    let trees = g.S.Store.trees in
    let old = c.taken_lemma-lemma.new.kernel.store in
    let kernel = c.taken_for.new.kernel in
    let new = kernel.store in
    let keeps = g.met.S.Store.grows_keeps old new c.taken_for.ensures.grows in
    let by = lemma_stays c.step_stays.ensures.known c.step_stays.ensures.same (trees old) (trees new) keeps c.args.lemma.now c.in_ok-by.by
    (rw c.in_ok-by.was at c.taken_lemma-lemma.ensures.lemma) in
    let others = map (step_at (trees new)) c.in_ok-by.by.steps.items in
    (by.last, replay_ends c.accepted_says_steps.ensures.taken c.args.lemma.now others by.rows by.last by.replays)

pub link-requires-clause-conclusion : goal.link-requires-clause-conclusion
link-requires-clause-conclusion g c = λ q ends.
    let trees = g.S.Store.trees in
    let old = c.taken_lemma-lemma.new.kernel.store in
    let kernel = c.taken_for.new.kernel in
    let new = kernel.store in
    let keeps = g.met.S.Store.grows_keeps old new c.taken_for.ensures.grows in
    let by = lemma_stays c.step_stays.ensures.known c.step_stays.ensures.same (trees old) (trees new) keeps c.args.lemma.now c.in_ok-by.by
    (rw c.in_ok-by.was at c.taken_lemma-lemma.ensures.lemma) in
    let others = map (step_at (trees new)) c.in_ok-by.by.steps.items in
    let last = replay_ends c.accepted_says_steps.ensures.taken c.args.lemma.now others by.rows by.last by.replays in
    ap (λ (p : Provable). p.conclusion) (one_ending others q by.last ends last) ∙ by.concludes

pub link-requires-clause-conclusion_known : goal.link-requires-clause-conclusion_known
link-requires-clause-conclusion_known g c =
    let trees = g.S.Store.trees in
    let old = c.taken_lemma-lemma.new.kernel.store in
    let kernel = c.taken_for.new.kernel in
    let new = kernel.store in
    let keeps = g.met.S.Store.grows_keeps old new c.taken_for.ensures.grows in
    let by = lemma_stays c.step_stays.ensures.known c.step_stays.ensures.same (trees old) (trees new) keeps c.args.lemma.now c.in_ok-by.by
    (rw c.in_ok-by.was at c.taken_lemma-lemma.ensures.lemma) in
    by.known

pub returns-in-Err-clause-ended : goal.returns-in-Err-clause-ended
returns-in-Err-clause-ended g c =
    let model = c.args.model.now in
    let term = c.args.term.now in
    let lemma = c.args.lemma.now in
    let trees = g.S.Store.trees in
    let old = c.taken_lemma-lemma.new.kernel.store in
    let kernel = c.taken_for.new.kernel in
    let new = kernel.store in
    let keeps = g.met.S.Store.grows_keeps old new c.taken_for.ensures.grows in
    let by = lemma_stays c.step_stays.ensures.known c.step_stays.ensures.same (trees old) (trees new) keeps c.args.lemma.now c.in_ok-by.by
    (rw c.in_ok-by.was at c.taken_lemma-lemma.ensures.lemma) in
    let held = g.met.S.Store.grows_keeps c.read_model.new.store.store old c.taken_lemma-lemma.ensures.grows in
    let reads = model_stays held c.in_ok-formula.ensures.found in
    let main = c.in_ok-main.ensures.taken model reads in
    let steps = map (step_at (trees new)) c.in_ok-main.main.items in
    let others = map (step_at (trees new)) c.in_ok-by.by.steps.items in
    let why = c.in-Err.fault in
    ends_so (Links model term lemma) c.refuse_link.result c.end_by.result c.end_by.ensures
    (IfOk-weaker c.refuse_link.result (λ r. IsLinkRefused why (reply_of r)) (λ r. Links model term lemma (reply_of r))
    (λ r is. fault_answer model term lemma steps (facts trees kernel) main.0 main.1 c.accepted_says_steps.ensures.taken others by.rows by.last by.replays why
    c.in-Err.ensures.fault (reply_of r) is)
    c.refuse_link.ensures)

pub record_taken-requires-clause-some : goal.record_taken-requires-clause-some
record_taken-requires-clause-some g c =
    let term = c.args.term.now in
    let lemma = c.args.lemma.now in
    let trees = g.S.Store.trees in
    let old = c.taken_lemma-lemma.new.kernel.store in
    let kernel = c.taken_for.new.kernel in
    let new = kernel.store in
    let keeps = g.met.S.Store.grows_keeps old new c.taken_for.ensures.grows in
    let by = lemma_stays c.step_stays.ensures.known c.step_stays.ensures.same (trees old) (trees new) keeps c.args.lemma.now c.in_ok-by.by
    (rw c.in_ok-by.was at c.taken_lemma-lemma.ensures.lemma) in
    let held = g.met.S.Store.grows_keeps c.read_model.new.store.store old c.taken_lemma-lemma.ensures.grows in
    let reads = model_stays held c.in_ok-formula.ensures.found in
    let main = c.in_ok-main.ensures.taken c.args.model.now reads in
    let steps = map (step_at (trees new)) c.in_ok-main.main.items in
    let others = map (step_at (trees new)) c.in_ok-by.by.steps.items in
    let linked = c.in-Ok.linked.items in
    let made = map (step_at (trees new)) linked in
    let says = c.accepted_says_steps.ensures.taken in
    let ends = replay_ends says term steps (facts trees kernel) main.0 main.1.replays in
    let others_end = replay_ends says lemma others by.rows by.last by.replays in
    omega (
      arith,
      linked_some steps others made main.0 by.last ends others_end c.in-Ok.ensures.linked,
      length-map linked (step_at (trees new)),
      ap length c.deref.ensures.value,
    )

pub record_taken-requires-clause-takes : goal.record_taken-requires-clause-takes
record_taken-requires-clause-takes g c =
    let trees = g.S.Store.trees in
    let old = c.taken_for.new.kernel.store in
    let new = c.link.new.kernel.store in
    let keeps = g.met.S.Store.grows_keeps old new c.link.ensures.grows in
    let items = c.in-Ok.linked.items in
    let same = still_same c.step_stays.ensures.known c.step_stays.ensures.same (trees old) (trees new) keeps items c.in-Ok.ensures.known in
    subst (λ l. Takes [] (map (step_at (trees new)) l) (facts trees c.link.new.kernel)) (sym c.deref.ensures.value)
    (subst (λ l. Takes [] l (facts trees c.link.new.kernel)) (sym same) c.in-Ok.ensures.rows)

pub returns-clause-reply : goal.returns-clause-reply
returns-clause-reply g c =
    let model = c.args.model.now in
    let term = c.args.term.now in
    let lemma = c.args.lemma.now in
    let trees = g.S.Store.trees in
    let old = c.taken_lemma-lemma.new.kernel.store in
    let kernel = c.taken_for.new.kernel in
    let new = kernel.store in
    let keeps = g.met.S.Store.grows_keeps old new c.taken_for.ensures.grows in
    let by = lemma_stays c.step_stays.ensures.known c.step_stays.ensures.same (trees old) (trees new) keeps c.args.lemma.now c.in_ok-by.by
    (rw c.in_ok-by.was at c.taken_lemma-lemma.ensures.lemma) in
    let held = g.met.S.Store.grows_keeps c.read_model.new.store.store old c.taken_lemma-lemma.ensures.grows in
    let reads = model_stays held c.in_ok-formula.ensures.found in
    let main = c.in_ok-main.ensures.taken model reads in
    let steps = map (step_at (trees new)) c.in_ok-main.main.items in
    let others = map (step_at (trees new)) c.in_ok-by.by.steps.items in
    let last = c.link.new.kernel.store in
    let grown = g.met.S.Store.grows_keeps new last c.link.ensures.grows in
    let linked = c.in-Ok.linked.items in
    let made = map (step_at (trees new)) linked in
    let stays = still_same c.step_stays.ensures.known c.step_stays.ensures.same (trees new) (trees last) grown linked c.in-Ok.ensures.known in
    IfOk-weaker c.record_taken.result (λ r. RecordsLast made (reply_of r)) (λ r. Links model term lemma (reply_of r))
    (λ r says. link_answer model term lemma steps (facts trees kernel) main.0 main.1 c.accepted_says_steps.ensures.taken others by.rows by.last by.replays made
    c.in-Ok.ensures.linked (reply_of r) says)
    (subst (λ l. IfOk c.record_taken.result (λ r. RecordsLast l (reply_of r))) stays (rw c.deref.ensures.value at c.record_taken.ensures.reply))

pub returns-clause-ended : goal.returns-clause-ended
returns-clause-ended g c =
    let model = c.args.model.now in
    let term = c.args.term.now in
    let lemma = c.args.lemma.now in
    let trees = g.S.Store.trees in
    let old = c.taken_lemma-lemma.new.kernel.store in
    let kernel = c.taken_for.new.kernel in
    let new = kernel.store in
    let keeps = g.met.S.Store.grows_keeps old new c.taken_for.ensures.grows in
    let by = lemma_stays c.step_stays.ensures.known c.step_stays.ensures.same (trees old) (trees new) keeps c.args.lemma.now c.in_ok-by.by
    (rw c.in_ok-by.was at c.taken_lemma-lemma.ensures.lemma) in
    let held = g.met.S.Store.grows_keeps c.read_model.new.store.store old c.taken_lemma-lemma.ensures.grows in
    let reads = model_stays held c.in_ok-formula.ensures.found in
    let main = c.in_ok-main.ensures.taken model reads in
    let steps = map (step_at (trees new)) c.in_ok-main.main.items in
    let others = map (step_at (trees new)) c.in_ok-by.by.steps.items in
    let last = c.link.new.kernel.store in
    let grown = g.met.S.Store.grows_keeps new last c.link.ensures.grows in
    let linked = c.in-Ok.linked.items in
    let made = map (step_at (trees new)) linked in
    let stays = still_same c.step_stays.ensures.known c.step_stays.ensures.same (trees new) (trees last) grown linked c.in-Ok.ensures.known in
    IfErr-weaker c.record_taken.result (EndsIn (RecordsLast made)) (EndsIn (Links model term lemma))
    (ends_weaker (RecordsLast made) (Links model term lemma)
    (λ reply says. link_answer model term lemma steps (facts trees kernel) main.0 main.1 c.accepted_says_steps.ensures.taken others by.rows by.last by.replays
    made c.in-Ok.ensures.linked reply says))
    (subst (λ l. IfErr c.record_taken.result (EndsIn (RecordsLast l))) stays (rw c.deref.ensures.value at c.record_taken.ensures.ended))
