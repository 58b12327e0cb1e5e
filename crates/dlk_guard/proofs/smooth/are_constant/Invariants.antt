use Rattle.std.proofs.Common.{◌≡◌, ◌+◌, ◌≤◌, drop}
use Rattle.dlk_tree.specs.Trees.{size_all}
use Rattle.dlk_store.specs.Stores.{kid_trees}
use Rattle.dlk_guard.specs.Smooth.{are_constant}
use Rattle.dlk_guard.proofs.smooth.are_constant.Given as goal

-- the trees so far are
abbrev pub invariant-loop-id : goal.invariant-loop-id
invariant-loop-id g l =
    let trees = kid_trees (g.S.Store.trees l.store) in
    record {
      rest : are_constant (trees l.ids) ≡ are_constant (trees (drop l.id-index l.ids));
      cost : l.steps + size_all (trees (drop l.id-index l.ids)) ≤ l.fn.steps + size_all (trees l.ids);
    }
