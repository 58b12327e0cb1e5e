use Rattle.dlk_derive.proofs.Places.{kid_of_differential}
use Rattle.dlk_derive.proofs.planning.under_differential.Goals as goal

pub returns-in-Diff-clause-kid : goal.returns-in-Diff-clause-kid
returns-in-Diff-clause-kid g c =
    kid_of_differential (g.S.Store.trees c.args.store.now) c.args.id c.look-node.result.op.now c.look-node.result.kids.now _
    (g.met.S.Store.well_made c.args.store.now) c.requires c.look-node.ensures.node c.look-node.ensures.known c.in-Diff.is
