use Rattle.std.proofs.Common.{ℕ, List, map, sym, subst}
use Rattle.std.proofs.lemmas.Result.{IfOk-weaker, err_from_is_err_and}
use Rattle.dlk_calculus.specs.Provables.{Provable}
use Rattle.dlk_store.specs.Stores.{tree}
use Rattle.dlk_kernel.specs.Kernel.{facts}
use Rattle.dlk_rules.specs.Steps.{step_at}
use Rattle.dlk_replies.proofs.Ends.{ends_weaker}
use Rattle.dlk_jobs_check.specs.Terms.{ModelText, TakesTerm, RefusesTerm}
use Rattle.dlk_jobs_check.specs.Judged.{RefusesModel}
use Rattle.dlk_jobs_check.proofs.Judging.{model_refuses}
use Rattle.dlk_jobs_terms.proofs.taken.taken.Goals as goal

pub returns-clause-taken : goal.returns-clause-taken
returns-clause-taken g c =
    let model = c.args.model.now in
    let term = c.args.term.now in
    let trees = g.S.Store.trees in
    let kernel = c.taken_for.new.kernel in
    let old = c.read_model.new.store.store in
    let read = c.in_ok-formula.ensures.found in
    let formula = c.in_ok-formula.formula in
    let reads : ModelText model (tree (trees old) formula) = subst (ModelText model) (sym read.2.tree_is) read.1 in
    IfOk-weaker c.taken_for.result
    (λ kept. (model : List ℕ) → ModelText model (tree (trees old) formula) →
    (p : Provable) × TakesTerm model term (map (step_at (trees kernel.store)) kept.items) (facts trees kernel) p)
    (λ kept. (p : Provable) × TakesTerm model term (map (step_at (trees kernel.store)) kept.items) (facts trees kernel) p)
    (λ kept is. is model reads) c.taken_for.ensures.taken

pub returns-clause-refused : goal.returns-clause-refused
returns-clause-refused g c =
    let model = c.args.model.now in
    let trees = g.S.Store.trees in
    let read = c.in_ok-formula.ensures.found in
    c.taken_for.ensures.refused model (subst (ModelText model) (sym read.2.tree_is) read.1)

pub returns-in_err-formula-clause-refused : goal.returns-in_err-formula-clause-refused
returns-in_err-formula-clause-refused g c =
    let model = c.args.model.now in
    let term = c.args.term.now in
    let p = err_from_is_err_and c.from_residual.result c.from_residual.ensures.1 in
    rw (p.1, p.2) (ends_weaker (RefusesModel model) (RefusesTerm model term) (model_refuses model term) _ c.in_err-formula.ensures.refused)
