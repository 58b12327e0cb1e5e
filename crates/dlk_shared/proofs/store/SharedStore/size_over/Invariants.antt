use Rattle.std.proofs.Common.{◌≡◌, ◌+◌, ◌^◌, ◌<◌, drop}
use Rattle.dlk_tree.specs.Trees.{size_all}
use Rattle.dlk_store.specs.Stores.{kid_trees}
use Rattle.dlk_shared.specs.Nodes.{trees_of}
use Rattle.dlk_shared.specs.Kept.{capped}
use Rattle.dlk_shared.proofs.store.SharedStore.size_over.Given as goal

abbrev pub invariant-loop-k : goal.invariant-loop-k
invariant-loop-k l =
    let trees = trees_of l.self.ops.keys l.self.nodes.entries in
    record {
      rest : capped (l.n + size_all (kid_trees trees (drop l.k-index l.kids))) ≡ capped (1 + size_all (kid_trees trees l.kids));
      top : l.n < 2 ^ 32;
    }
