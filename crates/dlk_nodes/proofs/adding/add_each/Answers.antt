use Rattle.std.proofs.Common.{map, refl, arith}
use Rattle.dlk_store.specs.Stores.{tree}
use Rattle.dlk_nodes.specs.Tables.{nodes_at}
use Rattle.dlk_nodes.specs.Terms.{new_in_each}
use Rattle.dlk_nodes.proofs.Begun.{not_begun, tree_put, tree_begun, no_trees_left, all_put, begun_now}
use Rattle.dlk_nodes.proofs.adding.add_each.Goals as goal

pub loop-id-init : goal.loop-id-init
loop-id-init g c = record {
  so_far = not_begun (nodes_at (g.S.Store.trees c.args.store.now) c.args.table.now) refl;
  looks = omega arith;
  nodes = c.requires.nodes;
}

pub add_new-requires-clause-nodes : goal.add_new-requires-clause-nodes
add_new-requires-clause-nodes g c = c.loop-id.invariant.nodes

pub loop-id-preserved : goal.loop-id-preserved
loop-id-preserved g c =
    let trees = g.S.Store.trees c.args.store.now in
    let old = nodes_at trees c.args.table.now in
    record {
      so_far = tree_put (tree trees) old (new_in_each old (map (tree trees) c.args.ids.now)) c.args.ids.now (nodes_at trees c.loop-id.table)
          (nodes_at trees c.add_new.new.table) c.loop-id.id-index _ c.loop-id-test.true c.in_ok-add_new.ensures.added
          c.loop-id.invariant.so_far;
      looks = omega (arith, c.in_ok-add_new.ensures.looks, c.loop-id.invariant.looks);
      nodes = c.in_ok-add_new.ensures.known;
    }

pub returns-in_err-add_new-clause-begun : goal.returns-in_err-add_new-clause-begun
returns-in_err-add_new-clause-begun g c =
    let trees = g.S.Store.trees c.args.store.now in
    let old = nodes_at trees c.args.table.now in
    (tree_begun (tree trees) old (new_in_each old (map (tree trees) c.args.ids.now)) c.args.ids.now (nodes_at trees c.loop-id.table)
    (nodes_at trees c.add_new.new.table) c.loop-id.id-index _ c.loop-id-test.true c.in_err-add_new.ensures.begun c.loop-id.invariant.so_far)

pub returns-clause-added : goal.returns-clause-added
returns-clause-added g c =
    let trees = g.S.Store.trees c.args.store.now in
    let old = nodes_at trees c.args.table.now in
    (all_put (no_trees_left (tree trees) old (new_in_each old (map (tree trees) c.args.ids.now)) c.args.ids.now (nodes_at trees c.loop-id.table)
    c.loop-id.id-index c.loop-id-test.false c.loop-id.invariant.so_far))

pub returns-clause-begun : goal.returns-clause-begun
returns-clause-begun g c =
    let trees = g.S.Store.trees c.args.store.now in
    let old = nodes_at trees c.args.table.now in
    (begun_now c.loop-id.invariant.so_far)
