use Rattle.std.proofs.Common.{◌&&◌, ◌∙◌, sym, ap}
use Rattle.dlk_store.specs.Stores.{tree, kid_trees}
use Rattle.dlk_store.proofs.Kids.{kid_smaller}
use Rattle.dlk_calculus.specs.Arithmetic.{is_arithmetic_tree, are_arithmetic_trees}
use Rattle.dlk_sequent.proofs.arithmetic.+is_arithmetic_tree.Goals as goal

pub loop-kid-init : goal.loop-kid-init
loop-kid-init g t c =
    let trees = g.S.Store.trees c.args.store.now in
    let ks = c.look-node.result.kids.now in
    let e = c.look-node.ensures.node in
    record {
      rest = sym (ap is_arithmetic_tree e ∙ ap (λ b. b && are_arithmetic_trees (kid_trees trees ks))
          (sym c.is_arithmetic.ensures ∙ c.if-not-is_arithmetic.false));
      known = c.look-node.ensures.known;
      smaller = λ i d h. kid_smaller trees (tree trees c.args.id) c.look-node.result.op.now ks i d e h;
    }
