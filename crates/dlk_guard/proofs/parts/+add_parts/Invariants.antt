use Rattle.std.proofs.Common.{◌≡◌, ℕ, ◌<◌, ◌++◌, map, drop, length, get_or, ◌+◌, ◌≤◌}
use Rattle.std.specs.Prelude.{All}
use Rattle.dlk_tree.specs.Trees.{size, size_all}
use Rattle.dlk_store.specs.Stores.{IsId, tree, kid_trees}
use Rattle.dlk_store.specs.declared.Id.{Id}
use Rattle.dlk_guard.specs.Smooth.{parts, parts_in}
use Rattle.dlk_guard.proofs.parts.+add_parts.Given as goal

abbrev pub decreases-add_parts : goal.decreases-add_parts
decreases-add_parts g l = size (tree (g.S.Store.trees l.store.now) l.id)

-- the parts of the kids that are left come behind those that were added
abbrev pub invariant-loop-kid : goal.invariant-loop-kid
invariant-loop-kid g l =
    let trees = g.S.Store.trees l.store in
    record {
      rest : map (tree trees) l.into.items ++ parts_in (kid_trees trees (drop l.kid-index l.kid-items)) ≡ map (tree trees) l.fn.into.items
          ++ parts (tree trees l.fn.id);
      added : All (IsId trees) l.into.items;
      known : All (IsId trees) l.kid-items;
      cost : l.steps + size_all (kid_trees trees (drop l.kid-index l.kid-items)) ≤ l.fn.steps + size (tree trees l.fn.id);
      smaller : (i : ℕ) (d : Id) → i < length l.kid-items → size (tree trees (get_or l.kid-items i d)) < size (tree trees l.fn.id);
    }
