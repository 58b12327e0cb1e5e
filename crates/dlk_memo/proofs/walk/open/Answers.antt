use Rattle.std.proofs.Common.{sym, ap, subst, ◌∙◌}
use Rattle.dlk_tree.specs.declared.op.Op.{Op}
use Rattle.dlk_tree.specs.Trees.{node, root}
use Rattle.dlk_store.specs.Stores.{kid_trees}
use Rattle.dlk_memo.proofs.walk.open.Goals as goal

pub returns-clause-tree : goal.returns-clause-tree
returns-clause-tree g c =
    let trees = g.S.Store.trees c.args.store.now in
    let is = c.look-node.ensures.node in
    is ∙ (λ i. node (sym (ap root is) i) (kid_trees trees (sym c.in_ok-kids.ensures i)))

pub returns-clause-task : goal.returns-clause-task
returns-clause-task g c =
    subst (λ (o : Op). g.R.Rule.IsTask c.args.rule.now o c.in_ok-task.task) (sym (ap root c.look-node.ensures.node)) c.in_ok-task.ensures
