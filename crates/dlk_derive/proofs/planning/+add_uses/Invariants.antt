use Rattle.std.proofs.Common.{◌≡◌, ◌++◌, ◌+◌, ◌≤◌, map, drop}
use Rattle.dlk_tree.specs.Trees.{size, size_all}
use Rattle.dlk_store.specs.Stores.{tree, kid_trees}
use Rattle.dlk_derive.specs.Plans.{plan_all, plan_at}
use Rattle.dlk_derive.specs.Ties.{atom_of}
use Rattle.dlk_derive.proofs.Collecting.{uses_at, seen}
use Rattle.dlk_derive.proofs.planning.+add_uses.Given as goal

abbrev pub decreases-add_uses : goal.decreases-add_uses
decreases-add_uses g l = size (tree (g.S.Store.trees l.store.now) l.id)

-- the uses for the ways and the kids that are left come behind those that were added
abbrev pub invariant-loop-n : goal.invariant-loop-n
invariant-loop-n g l =
    let trees = g.S.Store.trees l.store in
    let left = plan_all (drop l.n (seen l.ways)) (kid_trees trees (drop l.n l.node.kids.now)) in
    record {
      left : l.uses.items ++ uses_at l.place l.path left ≡ l.fn.uses.items ++ map (atom_of l.place) (plan_at (tree trees l.fn.id) l.path);
      cost : l.steps + size_all (kid_trees trees (drop l.n l.node.kids.now)) ≤ l.fn.steps + size (tree trees l.fn.id);
    }
