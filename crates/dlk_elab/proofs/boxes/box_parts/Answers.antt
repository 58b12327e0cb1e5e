use Rattle.std.proofs.Common.{arith}
use Rattle.dlk_elab.proofs.BoxPlans.{two_kids}
use Rattle.dlk_elab.proofs.boxes.box_parts.Goals as goal

pub returns-in_default-kids : goal.returns-in_default-kids
returns-in_default-kids g c = λ b f e.
    let n = two_kids (g.S.Store.trees c.args.store.now) c.look-node.result.kids.now _ _ b f c.look-node.ensures.node e in absurd (omega (arith, n))

pub returns-in_default-kids-2 : goal.returns-in_default-kids-2
returns-in_default-kids-2 g c = λ b f e.
    let n = two_kids (g.S.Store.trees c.args.store.now) c.look-node.result.kids.now _ _ b f c.look-node.ensures.node e in absurd (omega (arith, n))
