use Rattle.std.proofs.Common.{◌&&◌, ◌∙◌, sym, ap, arith}
use Rattle.dlk_store.specs.Stores.{tree, kid_trees}
use Rattle.dlk_store.proofs.Kids.{kid_smaller}
use Rattle.dlk_guard.specs.Smooth.{is_constant, are_constant}
use Rattle.dlk_guard.proofs.smooth.+is_constant.Goals as goal

pub loop-kid-init : goal.loop-kid-init
loop-kid-init g t c =
    let trees = g.S.Store.trees c.args.store.now in
    let ks = c.look-node.result.kids.now in
    let e = c.look-node.ensures.node in
    record {
      rest = sym (ap is_constant e ∙ ap (λ b. b && are_constant (kid_trees trees ks)) (sym c.is_constant_op.ensures ∙ c.if-not-is_constant_op.false));
      known = c.look-node.ensures.known;
      cost = rw e (omega (arith, c.look-node.ensures.step));
      smaller = λ i d h. kid_smaller trees (tree trees c.args.id) c.look-node.result.op.now ks i d e h;
    }
