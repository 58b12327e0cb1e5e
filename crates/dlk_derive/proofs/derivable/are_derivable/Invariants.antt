use Rattle.std.proofs.Common.{◌≡◌, ◌+◌, ◌*◌, ◌≤◌, drop}
use Rattle.dlk_tree.specs.Trees.{size_all}
use Rattle.dlk_store.specs.Stores.{kid_trees}
use Rattle.dlk_derive.specs.Decided.{are_derivable}
use Rattle.dlk_derive.proofs.derivable.are_derivable.Given as goal

-- the trees so far are
abbrev pub invariant-loop-id : goal.invariant-loop-id
invariant-loop-id g l =
    let trees = kid_trees (g.S.Store.trees l.store) in
    record {
      rest : are_derivable (trees l.ids) ≡ are_derivable (trees (drop l.id-index l.ids));
      cost : l.steps + 2 * size_all (trees (drop l.id-index l.ids)) ≤ l.fn.steps + 2 * size_all (trees l.ids);
    }
