use Rattle.std.proofs.Common.{◌≡◌, ◌∙◌, ◌+◌, ◌*◌, None, sym, ap, map, drop, get_or, length, arith}
use Rattle.dlk_store.specs.declared.Id.{Id}
use Rattle.dlk_store.specs.Stores.{tree, kid_trees}
use Rattle.dlk_store.proofs.Kids.{kid_smaller, kid_trees-drop}
use Rattle.dlk_guard.specs.Instances.{or_else, first_loose, first_loose_in}
use Rattle.dlk_guard.proofs.Looked.{loose_begins, next_kid}
use Rattle.dlk_guard.proofs.conditions.+first_loose.Goals as goal

pub loop-kid-init : goal.loop-kid-init
loop-kid-init g t c =
    let trees = g.S.Store.trees c.args.store.now in
    let domain = map (tree trees) c.args.domain.now in
    let items = c.args.items.now in
    let ks = c.look-node.result.kids.now in
    let e = c.look-node.ensures.node in
    record {
      rest = sym (ap (first_loose items domain) e
          ∙ ap (λ o. or_else o (first_loose_in items domain (kid_trees trees ks))) (sym c.in_ok-own.ensures.value ∙ c.in_default.is));
      known = c.look-node.ensures.known;
      cost = loose_begins (length c.args.domain.now) _ _ (tree trees c.args.id) c.look-node.result.op.now (kid_trees trees ks) e
          (omega (arith, c.look-node.ensures.step, c.in_ok-own.ensures.cost));
      smaller = λ i d h. kid_smaller trees (tree trees c.args.id) c.look-node.result.op.now ks i d e h;
    }

pub loop-kid-preserved : goal.loop-kid-preserved
loop-kid-preserved g t c =
    let trees = g.S.Store.trees c.args.store.now in
    let domain = map (tree trees) c.args.domain.now in
    let items = c.args.items.now in
    let ks = c.look-node.result.kids.now in
    let i = c.loop-kid.kid-index in
    let d : Id = record { 0 = 0 } in
    let there = c.loop-kid-test.true in
    let inv = c.loop-kid.invariant in
    let none : first_loose items domain (tree trees (get_or ks i d)) ≡ None = cc (c.in_ok-x.ensures.value) in
    record {
      rest = sym (ap (λ o. or_else o (first_loose_in items domain (kid_trees trees (drop (i + 1) ks)))) none)
          ∙ (rw (kid_trees-drop trees ks i d there) at inv.rest);
      known = inv.known;
      cost = next_kid trees ks i d (1 + 3 * length c.args.domain.now) _ _ _ there c.in_ok-x.ensures.cost inv.cost;
      smaller = inv.smaller;
    }

pub returns-in_err-x-clause-cost : goal.returns-in_err-x-clause-cost
returns-in_err-x-clause-cost g t c =
    let trees = g.S.Store.trees c.args.store.now in
    let d : Id = record { 0 = 0 } in
    omega (
      arith,
      next_kid trees c.look-node.result.kids.now c.loop-kid.kid-index d (1 + 3 * length c.args.domain.now) _ _ _ c.loop-kid-test.true
          c.in_err-x.ensures.cost c.loop-kid.invariant.cost,
    )
