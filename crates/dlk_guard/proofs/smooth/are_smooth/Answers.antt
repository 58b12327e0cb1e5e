use Rattle.std.proofs.Common.{◌≡◌, ◌&&◌, ◌∙◌, ◌+◌, ◌*◌, ◌≤◌, true, sym, ap, map, drop, get_or, length, arith}
use Rattle.dlk_tree.specs.Trees.{depth, depth_all}
use Rattle.dlk_store.specs.declared.Id.{Id}
use Rattle.dlk_store.specs.Stores.{tree, kid_trees}
use Rattle.dlk_store.proofs.Kids.{kid_trees-drop}
use Rattle.dlk_guard.specs.Smooth.{is_smooth, are_smooth}
use Rattle.dlk_guard.proofs.Looked.{next_smooth, kid_depth}
use Rattle.dlk_guard.proofs.smooth.are_smooth.Goals as goal

pub loop-id-preserved : goal.loop-id-preserved
loop-id-preserved g c =
    let trees = g.S.Store.trees c.args.store.now in
    let domain = map (tree trees) c.args.domain.now in
    let parts = length c.args.domain.now in
    let ids = c.args.ids.now in
    let i = c.loop-id.id-index in
    let d : Id = record { 0 = 0 } in
    let there = c.loop-id-test.true in
    let inv = c.loop-id.invariant in
    let holds : is_smooth domain (tree trees (get_or ids i d)) ≡ true = sym c.is_smooth.ensures.value ∙ c.if-not-is_smooth.false in
    let most = 1 + depth_all (kid_trees trees ids) + 3 * parts in
    let few : 1 + depth (tree trees (get_or ids i d)) + 3 * parts ≤ most = omega (arith, kid_depth trees ids i d there) in
    record {
      rest = inv.rest ∙ ap (are_smooth domain) (kid_trees-drop trees ids i d there)
          ∙ ap (λ b. b && are_smooth domain (kid_trees trees (drop (i + 1) ids))) holds;
      cost = next_smooth trees ids i d parts most _ _ _ there few c.is_smooth.ensures.cost inv.cost;
    }

pub returns-then-not-is_smooth-clause-cost : goal.returns-then-not-is_smooth-clause-cost
returns-then-not-is_smooth-clause-cost g c =
    let trees = g.S.Store.trees c.args.store.now in
    let parts = length c.args.domain.now in
    let ids = c.args.ids.now in
    let i = c.loop-id.id-index in
    let d : Id = record { 0 = 0 } in
    let there = c.loop-id-test.true in
    let most = 1 + depth_all (kid_trees trees ids) + 3 * parts in
    let few : 1 + depth (tree trees (get_or ids i d)) + 3 * parts ≤ most = omega (arith, kid_depth trees ids i d there) in
    omega (arith, next_smooth trees ids i d parts most _ _ _ there few c.is_smooth.ensures.cost c.loop-id.invariant.cost)
