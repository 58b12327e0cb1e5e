use Rattle.std.proofs.Common.{◌≡◌, ◌++◌, map, refl, subst, arith}
use Rattle.dlk_sequent.specs.declared.subst.Pair.{Pair}
use Rattle.dlk_store.specs.Stores.{tree}
use Rattle.dlk_nodes.specs.Put.{AreBegun}
use Rattle.dlk_nodes.specs.Tables.{nodes_at}
use Rattle.dlk_nodes.specs.Terms.{new_nodes, new_in_each}
use Rattle.dlk_nodes.proofs.Begun.{not_begun, tree_put, tree_begun, no_trees_left, all_put, begun_now, replaced}
use Rattle.dlk_nodes.proofs.adding.add_pairs.Goals as goal

pub loop-pair-init : goal.loop-pair-init
loop-pair-init g c = record {
  so_far = not_begun (nodes_at (g.S.Store.trees c.args.store.now) c.args.table.now) refl;
  looks = omega arith;
  nodes = c.requires.nodes;
}

pub add_new-requires-clause-nodes : goal.add_new-requires-clause-nodes
add_new-requires-clause-nodes g c = c.loop-pair.invariant.nodes

pub loop-pair-preserved : goal.loop-pair-preserved
loop-pair-preserved g c =
    let trees = g.S.Store.trees c.args.store.now in
    let old = nodes_at trees c.args.table.now in
    record {
      so_far = tree_put (λ (p : Pair). tree trees p.by) old (new_in_each old (map (λ (p : Pair). tree trees p.by) c.args.pairs.now)) c.args.pairs.now
          (nodes_at trees c.loop-pair.table)
          (nodes_at trees c.add_new.new.table) c.loop-pair.pair-index c.pair-item.result c.loop-pair-test.true
          (subst (λ (p : Pair). nodes_at trees c.add_new.new.table ≡ nodes_at trees c.loop-pair.table ++ new_nodes (nodes_at trees c.loop-pair.table)
          (tree trees p.by)) c.pair-item.is c.in_ok-add_new.ensures.added)
          c.loop-pair.invariant.so_far;
      looks = omega (arith, c.in_ok-add_new.ensures.looks, c.loop-pair.invariant.looks);
      nodes = c.in_ok-add_new.ensures.known;
    }

pub returns-in_err-add_new-clause-begun : goal.returns-in_err-add_new-clause-begun
returns-in_err-add_new-clause-begun g c =
    let trees = g.S.Store.trees c.args.store.now in
    let old = nodes_at trees c.args.table.now in
    subst (λ l. AreBegun old (nodes_at trees c.add_new.new.table) (new_in_each old l)) (replaced trees c.args.pairs.now)
    (tree_begun (λ (p : Pair). tree trees p.by) old (new_in_each old (map (λ (p : Pair). tree trees p.by) c.args.pairs.now)) c.args.pairs.now
    (nodes_at trees c.loop-pair.table)
    (nodes_at trees c.add_new.new.table) c.loop-pair.pair-index c.pair-item.result c.loop-pair-test.true
    (subst (λ (p : Pair). AreBegun (nodes_at trees c.loop-pair.table) (nodes_at trees c.add_new.new.table) (new_nodes (nodes_at trees c.loop-pair.table)
    (tree trees p.by))) c.pair-item.is c.in_err-add_new.ensures.begun) c.loop-pair.invariant.so_far)

pub returns-clause-added : goal.returns-clause-added
returns-clause-added g c =
    let trees = g.S.Store.trees c.args.store.now in
    let old = nodes_at trees c.args.table.now in
    subst (λ l. nodes_at trees c.loop-pair.table ≡ old ++ new_in_each old l) (replaced trees c.args.pairs.now)
    (all_put (no_trees_left (λ (p : Pair). tree trees p.by) old (new_in_each old (map (λ (p : Pair). tree trees p.by) c.args.pairs.now)) c.args.pairs.now
    (nodes_at trees c.loop-pair.table)
    c.loop-pair.pair-index c.loop-pair-test.false c.loop-pair.invariant.so_far))

pub returns-clause-begun : goal.returns-clause-begun
returns-clause-begun g c =
    let trees = g.S.Store.trees c.args.store.now in
    let old = nodes_at trees c.args.table.now in
    subst (λ l. AreBegun old (nodes_at trees c.loop-pair.table) (new_in_each old l)) (replaced trees c.args.pairs.now)
    (begun_now c.loop-pair.invariant.so_far)
