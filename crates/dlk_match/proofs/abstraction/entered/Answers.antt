use Rattle.std.proofs.Common.{sym}
use Rattle.dlk_store.specs.Stores.{kid_trees}
use Rattle.dlk_match.proofs.Abstracted.{nothing_captured, count_trees}
use Rattle.dlk_match.proofs.abstraction.entered.Goals as goal

pub returns-else-captures-clause-value : goal.returns-else-captures-clause-value
returns-else-captures-clause-value g c =
    let trees = g.S.Store.trees c.args.store.now in
    nothing_captured c.args.v.now c.args.op.now (kid_trees trees c.args.kids.now) c.captures-2.result c.if-captures.false c.captures-2.ensures _
    (sym (count_trees trees c.args.kids.now))
