use Rattle.std.proofs.Common.{◌≡◌, ◌++◌, drop}
use Rattle.std.specs.Prelude.{All, map}
use Rattle.dlk_tree.specs.Statics.{sets_all}
use Rattle.dlk_store.specs.Stores.{kid_trees}
use Rattle.dlk_shared.specs.Nodes.{trees_of}
use Rattle.dlk_shared.specs.SetTables.{AreSets, sets_at}
use Rattle.dlk_shared.proofs.store.SharedStore.kid_sets.Given as goal

abbrev pub invariant-loop-k : goal.invariant-loop-k
invariant-loop-k l =
    let trees = trees_of l.self.ops.keys l.self.nodes.entries in
    record {
      are : map (sets_at l.self.sets) l.found.items ++ sets_all (kid_trees trees (drop l.k-index l.kids)) ≡ sets_all (kid_trees trees l.kids);
      known : All (AreSets l.self.sets) l.found.items;
    }
