use Rattle.std.proofs.Common.{◌≡◌, subst, codes}
use Rattle.std.proofs.lemmas.Result.{err_from_is_err_and}
use Rattle.dlk_calculus.specs.Places.{At}
use Rattle.dlk_calculus.specs.Provables.{Provable}
use Rattle.dlk_tree.specs.Trees.{Tree}
use Rattle.dlk_store.specs.Stores.{tree}
use Rattle.dlk_kernel.specs.Kernel.{facts}
use Rattle.dlk_replies.proofs.Ends.{ends_weaker}
use Rattle.dlk_jobs_check.specs.Terms.{proves, RefusesTerm}
use Rattle.dlk_jobs_check.specs.Judged.{RefusesLine, RefusesConclusion}
use Rattle.dlk_jobs_check.proofs.Judging.{line_refuses}
use Rattle.dlk_jobs_terms.proofs.KeptSteps.{takes, conclusion_refuses}
use Rattle.dlk_jobs_terms.proofs.taken.taken_for.Goals as goal

pub returns-clause-taken : goal.returns-clause-taken
returns-clause-taken g c = λ model reads.
    let trees = g.S.Store.trees in
    let old = c.args.kernel.now.store in
    let kernel = c.replayed.new.kernel in
    let rows = facts trees kernel in
    let keeps = g.met.S.Store.grows_keeps old kernel.store c.replayed.ensures.grows in
    let f = tree (trees old) c.args.formula in
    let same : tree (trees kernel.store) c.args.formula ≡ f = keeps.same c.args.formula c.requires.formula in
    let outcome = c.in_ok-outcome.outcome in
    let kept = c.in_ok-outcome.ensures.kept in
    let shown = subst (λ (f : Tree). (p : Provable) → At rows outcome.fact p → p.conclusion ≡ proves f) same c.in_ok-judge.ensures.shown in
    (kept.last, takes (trees kernel.store) c.args.term.now rows outcome kept model f reads shown)

pub returns-in_err-outcome-clause-refused : goal.returns-in_err-outcome-clause-refused
returns-in_err-outcome-clause-refused g c = λ model reads.
    let term = c.args.term.now in
    let f = tree (g.S.Store.trees c.args.kernel.now.store) c.args.formula in
    let p = err_from_is_err_and c.from_residual.result c.from_residual.ensures.1 in
    rw (p.1, p.2) (ends_weaker (RefusesLine (codes "line") term) (RefusesTerm model term) (line_refuses model term f reads) _
    c.in_err-outcome.ensures.refused)

pub returns-in_err-judge-clause-refused : goal.returns-in_err-judge-clause-refused
returns-in_err-judge-clause-refused g c = λ model reads.
    let term = c.args.term.now in
    let trees = g.S.Store.trees in
    let old = c.args.kernel.now.store in
    let kernel = c.replayed.new.kernel in
    let rows = facts trees kernel in
    let keeps = g.met.S.Store.grows_keeps old kernel.store c.replayed.ensures.grows in
    let f = tree (trees old) c.args.formula in
    let same : tree (trees kernel.store) c.args.formula ≡ f = keeps.same c.args.formula c.requires.formula in
    let outcome = c.in_ok-outcome.outcome in
    let p = err_from_is_err_and c.from_residual-in_err-judge.result c.from_residual-in_err-judge.ensures.1 in
    rw (p.1, p.2) (ends_weaker (λ reply. (p : Provable) → At rows outcome.fact p →
    RefusesConclusion (tree (trees kernel.store) c.args.formula) outcome.line p reply)
    (RefusesTerm model term)
    (λ reply refused. conclusion_refuses (trees kernel.store) term rows outcome c.in_ok-outcome.ensures.kept model f reads reply
    (subst (λ (f : Tree). (p : Provable) → At rows outcome.fact p → RefusesConclusion f outcome.line p reply) same refused)) _
    c.in_err-judge.ensures.refused)
