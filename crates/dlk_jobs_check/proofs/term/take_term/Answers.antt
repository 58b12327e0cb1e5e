use Rattle.std.proofs.Common.{◌≡◌, subst, ◌∙◌, codes}
use Rattle.std.proofs.lemmas.Result.{err_from_is_err_and}
use Rattle.dlk_calculus.specs.Places.{At}
use Rattle.dlk_calculus.specs.Provables.{Provable}
use Rattle.dlk_tree.specs.Trees.{Tree}
use Rattle.dlk_store.specs.Stores.{tree}
use Rattle.dlk_kernel.specs.Kernel.{facts}
use Rattle.dlk_replies.proofs.Ends.{ends_weaker}
use Rattle.dlk_jobs_check.specs.Terms.{proves, RefusesTerm}
use Rattle.dlk_jobs_check.specs.Judged.{RefusesModel, RefusesLine, RefusesConclusion}
use Rattle.dlk_jobs_check.proofs.Judging.{taken, model_refuses, line_refuses, conclusion_refuses}
use Rattle.dlk_jobs_check.proofs.term.take_term.Goals as goal

pub returns-clause-taken : goal.returns-clause-taken
returns-clause-taken g c =
    let read = c.in_ok-formula.ensures.found in
    let rows = facts g.S.Store.trees c.replayed.new.kernel in
    let keeps = g.met.S.Store.grows_keeps c.read_model.new.store.store c.replayed.new.kernel.store c.replayed.ensures.grows in
    let same : tree (g.S.Store.trees c.replayed.new.kernel.store) c.in_ok-formula.formula ≡ read.0 = keeps.same c.in_ok-formula.formula read.2.known
    ∙ read.2.tree_is in
    let ending = c.in_ok-ending.ending in
    let shown = subst (λ (f : Tree). (p : Provable) → At rows ending.fact p → p.conclusion ≡ proves f) same c.in_ok-judge.ensures.shown in
    taken g.W.Watcher.after c.args.term.now rows ending c.args.watcher.now c.replayed.new.watcher c.in_ok-ending.ensures.replays c.args.model.now read.0
    read.1 shown

pub returns-in_err-formula-clause-refused : goal.returns-in_err-formula-clause-refused
returns-in_err-formula-clause-refused g c =
    let model = c.args.model.now in
    let term = c.args.term.now in
    let p = err_from_is_err_and c.from_residual.result c.from_residual.ensures.1 in
    rw (p.1, p.2) (ends_weaker (RefusesModel model) (RefusesTerm model term) (model_refuses model term) _ c.in_err-formula.ensures.refused)

pub returns-in_err-ending-clause-refused : goal.returns-in_err-ending-clause-refused
returns-in_err-ending-clause-refused g c =
    let model = c.args.model.now in
    let term = c.args.term.now in
    let read = c.in_ok-formula.ensures.found in
    let p = err_from_is_err_and c.from_residual-in_err-ending.result c.from_residual-in_err-ending.ensures.1 in
    rw (p.1, p.2) (ends_weaker (RefusesLine (codes "line") term) (RefusesTerm model term) (line_refuses model term read.0 read.1) _
    c.in_err-ending.ensures.refused)

pub returns-in_err-judge-clause-refused : goal.returns-in_err-judge-clause-refused
returns-in_err-judge-clause-refused g c =
    let model = c.args.model.now in
    let term = c.args.term.now in
    let read = c.in_ok-formula.ensures.found in
    let rows = facts g.S.Store.trees c.replayed.new.kernel in
    let keeps = g.met.S.Store.grows_keeps c.read_model.new.store.store c.replayed.new.kernel.store c.replayed.ensures.grows in
    let same : tree (g.S.Store.trees c.replayed.new.kernel.store) c.in_ok-formula.formula ≡ read.0 = keeps.same c.in_ok-formula.formula read.2.known
    ∙ read.2.tree_is in
    let ending = c.in_ok-ending.ending in
    let p = err_from_is_err_and c.from_residual-in_err-judge.result c.from_residual-in_err-judge.ensures.1 in
    rw (p.1, p.2) (ends_weaker (λ reply. (p : Provable) → At rows ending.fact p →
    RefusesConclusion (tree (g.S.Store.trees c.replayed.new.kernel.store) c.in_ok-formula.formula) ending.line p reply)
    (RefusesTerm model term)
    (λ reply refused. conclusion_refuses g.W.Watcher.after term rows ending c.args.watcher.now c.replayed.new.watcher c.in_ok-ending.ensures.replays model
    read.0 read.1 reply
    (subst (λ (f : Tree). (p : Provable) → At rows ending.fact p → RefusesConclusion f ending.line p reply) same refused)) _ c.in_err-judge.ensures.refused)
