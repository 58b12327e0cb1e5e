use Rattle.std.proofs.Common.{◌≡◌, ◌+◌, ◌*◌, ◌≤◌, length, map, drop}
use Rattle.dlk_tree.specs.Trees.{size_all, depth_all}
use Rattle.dlk_store.specs.Stores.{tree, kid_trees}
use Rattle.dlk_guard.specs.Smooth.{are_smooth}
use Rattle.dlk_guard.specs.Looks.{smooth_looks_all}
use Rattle.dlk_guard.proofs.smooth.are_smooth.Given as goal

-- the trees so far are
abbrev pub invariant-loop-id : goal.invariant-loop-id
invariant-loop-id g l =
    let trees = kid_trees (g.S.Store.trees l.store) in
    let domain = map (tree (g.S.Store.trees l.store)) l.domain in
    record {
      rest : are_smooth domain (trees l.ids) ≡ are_smooth domain (trees (drop l.id-index l.ids));
      cost : l.steps + size_all (trees (drop l.id-index l.ids)) * (1 + depth_all (trees l.ids) + 3 * length l.domain)
          ≤ l.fn.steps + smooth_looks_all (length l.domain) (trees l.ids);
    }
