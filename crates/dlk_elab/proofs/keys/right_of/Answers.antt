use Rattle.dlk_elab.proofs.Kids.{last_kid}
use Rattle.dlk_elab.proofs.keys.right_of.Goals as goal

pub returns : goal.returns
returns g c =
    last_kid (g.S.Store.trees c.args.store.now) c.look.result.op.now c.look.result.kids.now _ _ c.look.ensures.node c.requires.kids c.look.ensures.known
