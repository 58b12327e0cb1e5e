use Rattle.std.proofs.Common.{◌≡◌, ◌+◌, ◌^◌, ◌<◌, max, drop}
use Rattle.dlk_tree.specs.Trees.{depth_all}
use Rattle.dlk_store.specs.Stores.{kid_trees}
use Rattle.dlk_shared.specs.Nodes.{trees_of}
use Rattle.dlk_shared.specs.Kept.{capped}
use Rattle.dlk_shared.proofs.store.SharedStore.depth_over.Given as goal

abbrev pub invariant-loop-k : goal.invariant-loop-k
invariant-loop-k l =
    let trees = trees_of l.self.ops.keys l.self.nodes.entries in
    record {
      rest : capped (1 + max l.n (depth_all (kid_trees trees (drop l.k-index l.kids)))) ≡ capped (1 + depth_all (kid_trees trees l.kids));
      top : l.n < 2 ^ 32;
    }
