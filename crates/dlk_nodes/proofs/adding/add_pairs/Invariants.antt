use Rattle.std.proofs.Common.{◌+◌, ◌≤◌, length, map, drop}
use Rattle.std.specs.Prelude.{All}
use Rattle.dlk_sequent.specs.declared.subst.Pair.{Pair}
use Rattle.dlk_store.specs.Stores.{IsId, tree}
use Rattle.dlk_nodes.specs.Tables.{nodes_at}
use Rattle.dlk_nodes.specs.Terms.{new_in_each}
use Rattle.dlk_nodes.proofs.Begun.{PutSoFar}
use Rattle.dlk_nodes.proofs.adding.add_pairs.Given as goal

-- the nodes of the trees from here on are left
abbrev pub invariant-loop-pair : goal.invariant-loop-pair
invariant-loop-pair g l =
    let trees = g.S.Store.trees l.store in
    let nodes = nodes_at trees l.table in
    let old = nodes_at trees l.fn.table in
    record {
      so_far : PutSoFar old (new_in_each old (map (λ (p : Pair). tree trees p.by) l.pairs)) nodes
          (new_in_each nodes (map (λ (p : Pair). tree trees p.by) (drop l.pair-index l.pairs)));
      looks : l.steps + length l.fn.table ≤ l.fn.steps + length l.table;
      nodes : All (IsId trees) l.table;
    }
