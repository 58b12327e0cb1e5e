use Rattle.std.proofs.Common.{◌+◌, ◌≤◌, length, map, drop}
use Rattle.std.specs.Prelude.{All}
use Rattle.dlk_store.specs.Stores.{IsId, tree}
use Rattle.dlk_nodes.specs.Tables.{nodes_at}
use Rattle.dlk_nodes.specs.Terms.{new_in_each}
use Rattle.dlk_nodes.proofs.Begun.{PutSoFar}
use Rattle.dlk_nodes.proofs.adding.add_each.Given as goal

-- the nodes of the trees from here on are left
abbrev pub invariant-loop-id : goal.invariant-loop-id
invariant-loop-id g l =
    let trees = g.S.Store.trees l.store in
    let nodes = nodes_at trees l.table in
    let old = nodes_at trees l.fn.table in
    record {
      so_far : PutSoFar old (new_in_each old (map (tree trees) l.ids)) nodes (new_in_each nodes (map (tree trees) (drop l.id-index l.ids)));
      looks : l.steps + length l.fn.table ≤ l.fn.steps + length l.table;
      nodes : All (IsId trees) l.table;
    }
