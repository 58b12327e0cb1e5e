use Rattle.dlk_store.specs.Stores.{tree}
use Rattle.dlk_elab.proofs.FinishPlans.{two_long}
use Rattle.dlk_elab.proofs.finishing.sides_of.Goals as goal

pub prove-unreachable-requires : goal.prove-unreachable-requires
prove-unreachable-requires g c =
    let trees = g.S.Store.trees c.args.store.now in
    c.if-prove.true (two_long trees (tree trees c.args.id) c.look-node.result.op.now c.look-node.result.kids.now c.look-node.ensures.node c.requires.two)
