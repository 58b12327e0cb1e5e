use Rattle.std.proofs.Common.{◌+◌}
use Rattle.dlk_store.specs.Stores.{tree}
use Rattle.dlk_tree.specs.Trees.{size}
use Rattle.dlk_memo.proofs.Tables.{right_empty, above_empty}
use Rattle.dlk_memo.proofs.Counted.{spent_few}
use Rattle.dlk_memo.proofs.walk.run.Goals as goal

pub walk-requires-clause-right : goal.walk-requires-clause-right
walk-requires-clause-right g c =
    let trees = g.S.Store.trees c.args.store.now in
    right_empty (g.R.Rule.Makes (g.R.Rule.job c.args.rule.now trees)) trees c.new-done.result c.new-done.ensures.empty

pub walk-requires-clause-above : goal.walk-requires-clause-above
walk-requires-clause-above g c =
    let trees = g.S.Store.trees c.args.store.now in
    above_empty trees (size (tree trees c.args.id)) c.new-done.result c.new-done.ensures.empty

pub returns-clause-cost : goal.returns-clause-cost
returns-clause-cost g c u =
    let trees = g.S.Store.trees c.args.store.now in
    spent_few g.S.Store.unique (1 + g.R.Rule.looks (g.R.Rule.job c.args.rule.now trees)) (tree trees c.args.id) (g.S.Store.trees c.walk.new.store)
    c.new-done.result c.walk.new.done c.args.steps.now c.walk.new.steps c.new-done.ensures.empty c.walk.ensures.spends u
    (g.met.S.Store.one_id u c.walk.new.store)
