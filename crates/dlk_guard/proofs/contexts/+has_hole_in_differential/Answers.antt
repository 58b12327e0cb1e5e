use Rattle.std.proofs.Common.{◌∙◌, sym, arith}
use Rattle.dlk_store.specs.Stores.{tree, kid_trees}
use Rattle.dlk_store.proofs.Kids.{kid_smaller}
use Rattle.dlk_guard.proofs.Holes.{none_without_hole}
use Rattle.dlk_guard.proofs.Joined.{beside}
use Rattle.dlk_guard.proofs.contexts.+has_hole_in_differential.Goals as goal

pub returns-then-not-has_hole-clause-value : goal.returns-then-not-has_hole-clause-value
returns-then-not-has_hole-clause-value g t c =
    sym (none_without_hole (tree (g.S.Store.trees c.args.store.now) c.args.id) (sym c.has_hole.ensures ∙ c.if-not-has_hole.true))

pub loop-kid-init : goal.loop-kid-init
loop-kid-init g t c =
    let trees = g.S.Store.trees c.args.store.now in
    let ks = c.look-node.result.kids.now in
    let e = c.look-node.ensures.node in
    record {
      rest = sym (beside (tree trees c.args.id) c.look-node.result.op.now (kid_trees trees ks) e (sym c.is_differential.ensures ∙ c.if-is_differential.false));
      known = c.look-node.ensures.known;
      cost = rw e (omega (arith, c.look-node.ensures.step));
      smaller = λ i d h. kid_smaller trees (tree trees c.args.id) c.look-node.result.op.now ks i d e h;
    }
