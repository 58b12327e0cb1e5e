use Rattle.std.proofs.Common.{◌||◌, ◌∙◌, sym, ap}
use Rattle.dlk_store.specs.Stores.{tree, kid_trees}
use Rattle.dlk_store.proofs.Kids.{kid_smaller}
use Rattle.dlk_smt.specs.Smt.{has_other_power, any_has_other_power}
use Rattle.dlk_smt.proofs.power.+has_other_power.Goals as goal

pub loop-kid-init : goal.loop-kid-init
loop-kid-init g t c =
    let trees = g.S.Store.trees c.args.store.now in
    let ks = c.look-node.result.kids.now in
    let e = c.look-node.ensures.node in
    record {
      rest = sym (ap has_other_power e ∙ ap (λ b. b || any_has_other_power (kid_trees trees ks)) (sym c.if-is_other_power.ensures));
      known = c.look-node.ensures.known;
      smaller = λ i d h. kid_smaller trees (tree trees c.args.id) c.look-node.result.op.now ks i d e h;
    }
