use Rattle.std.proofs.Common.{◌≡◌, ℕ, ◌<◌, map, drop, length, get_or, ◌+◌, ◌*◌, ◌≤◌}
use Rattle.std.specs.Prelude.{All}
use Rattle.dlk_tree.specs.Trees.{size, size_all}
use Rattle.dlk_store.specs.Stores.{IsId, tree, kid_trees}
use Rattle.dlk_store.specs.declared.Id.{Id}
use Rattle.dlk_guard.specs.Instances.{first_loose, first_loose_in}
use Rattle.dlk_guard.specs.Looks.{loose_looks}
use Rattle.dlk_guard.proofs.conditions.+first_loose.Given as goal

abbrev pub decreases-first_loose : goal.decreases-first_loose
decreases-first_loose g l = size (tree (g.S.Store.trees l.store.now) l.id)

-- none stands in the kids so far
abbrev pub invariant-loop-kid : goal.invariant-loop-kid
invariant-loop-kid g l =
    let trees = g.S.Store.trees l.store in
    let domain = map (tree trees) l.domain in
    record {
      rest : first_loose_in l.items domain (kid_trees trees (drop l.kid-index l.kid-items)) ≡ first_loose l.items domain (tree trees l.fn.id);
      known : All (IsId trees) l.kid-items;
      cost : l.steps + size_all (kid_trees trees (drop l.kid-index l.kid-items)) * (1 + 3 * length l.domain)
          ≤ l.fn.steps + loose_looks (length l.domain) (tree trees l.fn.id);
      smaller : (i : ℕ) (d : Id) → i < length l.kid-items → size (tree trees (get_or l.kid-items i d)) < size (tree trees l.fn.id);
    }
