use Rattle.std.proofs.Common.{length, map, refl, sym, ap, subst, ◌∙◌, arith}
use Rattle.std.proofs.lemmas.List.{length-map}
use Rattle.std.proofs.lemmas.Result.{IfOk-weaker, err_from_is_err_and}
use Rattle.dlk_tree.specs.Trees.{Tree}
use Rattle.dlk_store.specs.Stores.{tree}
use Rattle.dlk_calculus.specs.Limits.{IsSmall, IsShallow}
use Rattle.dlk_calculus.specs.Places.{At}
use Rattle.dlk_calculus.specs.Provables.{Provable}
use Rattle.dlk_rules.specs.Steps.{step_at}
use Rattle.dlk_kernel.specs.Kernel.{facts, provable_at}
use Rattle.dlk_tacsyn.specs.Ties.{tactic_at}
use Rattle.dlk_strategy.specs.Ties.{progress_at}
use Rattle.dlk_strategy.specs.Runs.{Done, RunsModel}
use Rattle.dlk_replies.specs.Shown.{reply_of}
use Rattle.dlk_replies.proofs.Ends.{ends_weaker}
use Rattle.dlk_jobs_check.specs.Judged.{RefusesModel}
use Rattle.dlk_jobs_check.proofs.Models.{model_small, model_shallow}
use Rattle.dlk_jobs_record.specs.Records.{Records}
use Rattle.dlk_jobs_prove.specs.Proves.{Proves}
use Rattle.dlk_jobs_prove.specs.Proved.{RefusesStrategy, RefusesRun}
use Rattle.dlk_jobs_prove.proofs.ProveAnswers.{model_answer, strategy_answer, fault_answer, done_answer, early_done}
use Rattle.dlk_jobs_prove.proofs.RunSteps.{run_count, some_rows}
use Rattle.dlk_jobs_prove.proofs.prove.prove_on.Goals as goal

pub returns-in_err-formula-clause-ended : goal.returns-in_err-formula-clause-ended
returns-in_err-formula-clause-ended g c =
    let model = c.args.model.now in
    let text = c.args.text.now in
    let p = err_from_is_err_and c.from_residual.result c.from_residual.ensures.1 in
    rw (p.1, p.2) (ends_weaker (RefusesModel model) (Proves model text) (model_answer model text) _ c.in_err-formula.ensures.refused)

pub returns-in_err-tactic-clause-ended : goal.returns-in_err-tactic-clause-ended
returns-in_err-tactic-clause-ended g c =
    let model = c.args.model.now in
    let text = c.args.text.now in
    let read = c.in_ok-formula.ensures.found in
    let p = err_from_is_err_and c.from_residual-in_err-tactic.result c.from_residual-in_err-tactic.ensures.1 in
    rw (p.1, p.2) (ends_weaker (RefusesStrategy text) (Proves model text) (strategy_answer model text read.0 read.1) _ c.in_err-tactic.ensures.refused)

pub run-requires-clause-small : goal.run-requires-clause-small
run-requires-clause-small g c =
    let read = c.in_ok-formula.ensures.found in
    let keeps = g.met.S.Store.grows_keeps c.read_model.new.store.store c.read_strategy.new.store.store c.in_ok-tactic.ensures.grows.0 in
    subst IsSmall (sym (keeps.same c.in_ok-formula.formula read.2.known ∙ read.2.tree_is)) (model_small c.args.model.now read.0 read.1)

pub run-requires-clause-shallow : goal.run-requires-clause-shallow
run-requires-clause-shallow g c =
    let read = c.in_ok-formula.ensures.found in
    let keeps = g.met.S.Store.grows_keeps c.read_model.new.store.store c.read_strategy.new.store.store c.in_ok-tactic.ensures.grows.0 in
    subst IsShallow (sym (keeps.same c.in_ok-formula.formula read.2.known ∙ read.2.tree_is)) (model_shallow c.args.model.now read.0 read.1)

pub finish-requires-clause-fact : goal.finish-requires-clause-fact
finish-requires-clause-fact g c =
    let run = c.in_ok-done.ensures.done in
    let rows = c.run.new.kernel.rows in
    let some = some_rows c.run_shows_formula.ensures _ _ _ _ run.2 in
    let count = length-map rows (provable_at (g.S.Store.trees c.run.new.kernel.store)) in
    (omega (arith, some, count, c.in_ok-done.ensures.fact), omega (arith, c.in_ok-done.ensures.fact))

pub finish-requires-clause-few : goal.finish-requires-clause-few
finish-requires-clause-few g c =
    let run = c.in_ok-done.ensures.done in
    let rows = c.run.new.kernel.rows in
    let trees = g.S.Store.trees c.run.new.kernel.store in
    let steps = c.in_ok-done.done.steps.items in
    let same = run_count c.run_is_taken.ensures.taken _ _ _ _ run.2 in
    let row_count = length-map rows (provable_at trees) in
    let step_count = length-map steps (step_at trees) in
    ap length c.as_slice.ensures.value ∙ sym step_count ∙ same ∙ row_count

pub returns-clause-reply : goal.returns-clause-reply
returns-clause-reply g c =
    let model = c.args.model.now in
    let text = c.args.text.now in
    let read = c.in_ok-formula.ensures.found in
    let old = g.S.Store.trees c.read_strategy.new.store.store in
    let trees = g.S.Store.trees c.run.new.kernel.store in
    let keeps = g.met.S.Store.grows_keeps c.read_model.new.store.store c.read_strategy.new.store.store c.in_ok-tactic.ensures.grows.0 in
    let same = keeps.same c.in_ok-formula.formula read.2.known ∙ read.2.tree_is in
    let tactic = tactic_at old c.in_ok-tactic.tactic in
    let done = c.in_ok-done.done in
    let run = c.in_ok-done.ensures.done in
    let made = progress_at g.S.Store.trees c.run.new.kernel done.steps.items run.0 in
    let is_run = subst (λ (t : Tree). RunsModel tactic t (Done made run.1)) same run.2 in
    IfOk-weaker c.finish.result
    (λ r. (p : Provable) → At (facts g.S.Store.trees c.run.new.kernel) done.fact p → Records (map (step_at trees) done.steps.items) p (reply_of r))
    (λ r. Proves model text (reply_of r))
    (λ r says. done_answer model text read.0 read.1 tactic c.in_ok-tactic.ensures.found made run.1 is_run
    (some_rows c.run_shows_formula.ensures _ _ made run.1 is_run) c.run.new.kernel.rows (provable_at trees) refl
    done.fact c.in_ok-done.ensures.fact (reply_of r) says) (rw c.as_slice.ensures.value at c.finish.ensures.reply)

pub returns-clause-ended : goal.returns-clause-ended
returns-clause-ended g c =
    let model = c.args.model.now in
    let text = c.args.text.now in
    let read = c.in_ok-formula.ensures.found in
    let old = g.S.Store.trees c.read_strategy.new.store.store in
    let trees = g.S.Store.trees c.run.new.kernel.store in
    let keeps = g.met.S.Store.grows_keeps c.read_model.new.store.store c.read_strategy.new.store.store c.in_ok-tactic.ensures.grows.0 in
    let same = keeps.same c.in_ok-formula.formula read.2.known ∙ read.2.tree_is in
    let tactic = tactic_at old c.in_ok-tactic.tactic in
    let done = c.in_ok-done.done in
    let run = c.in_ok-done.ensures.done in
    let made = progress_at g.S.Store.trees c.run.new.kernel done.steps.items run.0 in
    let is_run = subst (λ (t : Tree). RunsModel tactic t (Done made run.1)) same run.2 in
    early_done c.finish.result (map (step_at trees) done.steps.items) (Proves model text)
    (λ reply says. done_answer model text read.0 read.1 tactic c.in_ok-tactic.ensures.found made run.1 is_run
    (some_rows c.run_shows_formula.ensures _ _ made run.1 is_run) c.run.new.kernel.rows (provable_at trees) refl
    done.fact c.in_ok-done.ensures.fact reply (λ p there. says p)) (rw c.as_slice.ensures.value at c.finish.ensures.ended)

pub returns-in_err-done-clause-ended : goal.returns-in_err-done-clause-ended
returns-in_err-done-clause-ended g c =
    let model = c.args.model.now in
    let text = c.args.text.now in
    let read = c.in_ok-formula.ensures.found in
    let old = g.S.Store.trees c.read_strategy.new.store.store in
    let keeps = g.met.S.Store.grows_keeps c.read_model.new.store.store c.read_strategy.new.store.store c.in_ok-tactic.ensures.grows.0 in
    let same = keeps.same c.in_ok-formula.formula read.2.known ∙ read.2.tree_is in
    let tactic = tactic_at old c.in_ok-tactic.tactic in
    let p = err_from_is_err_and c.from_residual-in_err-done.result c.from_residual-in_err-done.ensures.1 in
    rw (p.1, p.2) (ends_weaker (RefusesRun (RunsModel tactic (tree old c.in_ok-formula.formula))) (Proves model text)
    (λ reply refused. fault_answer model text read.0 read.1 tactic c.in_ok-tactic.ensures.found reply
    (subst (λ (t : Tree). RefusesRun (RunsModel tactic t) reply) same refused)) _ c.in_err-done.ensures.refused)
