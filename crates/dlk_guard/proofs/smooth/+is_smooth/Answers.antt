use Rattle.std.proofs.Common.{◌≡◌, ◌&&◌, ◌∙◌, ◌+◌, ◌*◌, ◌≤◌, true, sym, ap, map, drop, get_or, length, arith}
use Rattle.dlk_tree.specs.Trees.{depth}
use Rattle.dlk_store.specs.declared.Id.{Id}
use Rattle.dlk_store.specs.Stores.{tree, kid_trees}
use Rattle.dlk_store.proofs.Kids.{kid_smaller, kid_trees-drop}
use Rattle.dlk_guard.specs.Smooth.{is_smooth, are_smooth}
use Rattle.dlk_guard.proofs.Looked.{smooth_begins, next_smooth, kid_shallower}
use Rattle.dlk_guard.proofs.smooth.+is_smooth.Goals as goal

pub loop-kid-init : goal.loop-kid-init
loop-kid-init g t c =
    let trees = g.S.Store.trees c.args.store.now in
    let domain = map (tree trees) c.args.domain.now in
    let ks = c.look-node.result.kids.now in
    let e = c.look-node.ensures.node in
    record {
      rest = sym (ap (is_smooth domain) e ∙
          ap (λ b. b && are_smooth domain (kid_trees trees ks)) (sym c.joins_smooth.ensures.value ∙ c.if-not-joins_smooth.false));
      known = c.look-node.ensures.known;
      cost = smooth_begins (length c.args.domain.now) _ _ (tree trees c.args.id) c.look-node.result.op.now (kid_trees trees ks) e
          (omega (arith, c.look-node.ensures.step, c.joins_smooth.ensures.cost));
      shallower = λ i d h. kid_shallower trees (tree trees c.args.id) c.look-node.result.op.now ks i d e h;
      smaller = λ i d h. kid_smaller trees (tree trees c.args.id) c.look-node.result.op.now ks i d e h;
    }

pub loop-kid-preserved : goal.loop-kid-preserved
loop-kid-preserved g t c =
    let trees = g.S.Store.trees c.args.store.now in
    let domain = map (tree trees) c.args.domain.now in
    let parts = length c.args.domain.now in
    let ks = c.look-node.result.kids.now in
    let i = c.loop-kid.kid-index in
    let d : Id = record { 0 = 0 } in
    let there = c.loop-kid-test.true in
    let inv = c.loop-kid.invariant in
    let holds : is_smooth domain (tree trees (get_or ks i d)) ≡ true = sym c.is_smooth.ensures.value ∙ c.if-not-is_smooth.false in
    let few : 1 + depth (tree trees (get_or ks i d)) + 3 * parts ≤ depth (tree trees c.args.id) + 3 * parts = omega (arith, inv.shallower i d there) in
    record {
      rest = sym (ap (λ b. b && are_smooth domain (kid_trees trees (drop (i + 1) ks))) holds) ∙ (rw (kid_trees-drop trees ks i d there) at inv.rest);
      known = inv.known;
      cost = next_smooth trees ks i d parts (depth (tree trees c.args.id) + 3 * parts) _ _ _ there few c.is_smooth.ensures.cost inv.cost;
      shallower = inv.shallower;
      smaller = inv.smaller;
    }
