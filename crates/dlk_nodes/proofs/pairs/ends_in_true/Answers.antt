use Rattle.std.proofs.Common.{◌∙◌, sym, ap}
use Rattle.std.proofs.lemmas.Bool.{false_from_ne_true}
use Rattle.dlk_tree.specs.Trees.{root}
use Rattle.dlk_calculus.specs.Pairs.{is_true}
use Rattle.dlk_nodes.proofs.pairs.ends_in_true.Goals as goal
use Rattle.dlk_sequent.proofs.Last.{is_True, last_kid}

pub returns-in-True : goal.returns-in-True
returns-in-True g c =
    let is = last_kid (g.S.Store.trees c.args.store.now) c.args.kids.now c.in-Some.domain.now (sym c.in-Some.ensures.value) in
    sym (ap (λ t. is_true (root t)) (is ∙ c.look.ensures.node) ∙ ap is_true c.in-True.is)

pub returns-in_default : goal.returns-in_default
returns-in_default g c =
    let is = last_kid (g.S.Store.trees c.args.store.now) c.args.kids.now c.in-Some.domain.now (sym c.in-Some.ensures.value) in
    sym (ap (λ t. is_true (root t)) (is ∙ c.look.ensures.node) ∙ false_from_ne_true (is_true c.look.result.op.now) (λ e.
    c.in_default.not-True (is_True c.look.result.op.now e)))
