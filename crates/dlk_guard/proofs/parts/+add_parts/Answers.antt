use Rattle.std.proofs.Common.{◌∙◌, ◌++◌, sym, ap, map, arith}
use Rattle.dlk_store.specs.Stores.{tree, kid_trees}
use Rattle.dlk_store.proofs.Kids.{kid_smaller}
use Rattle.dlk_guard.proofs.Joined.{joined}
use Rattle.dlk_guard.proofs.parts.+add_parts.Goals as goal

pub loop-kid-init : goal.loop-kid-init
loop-kid-init g t c =
    let trees = g.S.Store.trees c.args.store.now in
    let ks = c.look-node.result.kids.now in
    let e = c.look-node.ensures.node in
    record {
      rest = ap (λ ts. map (tree trees) c.args.into.now.items ++ ts)
          (sym (joined (tree trees c.args.id) c.look-node.result.op.now (kid_trees trees ks) e (sym c.is_and.ensures ∙ c.if-not-is_and.false)));
      added = c.requires.into;
      known = c.look-node.ensures.known;
      cost = rw e (omega (arith, c.look-node.ensures.step));
      smaller = λ i d h. kid_smaller trees (tree trees c.args.id) c.look-node.result.op.now ks i d e h;
    }
