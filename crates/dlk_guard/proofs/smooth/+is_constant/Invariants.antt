use Rattle.std.proofs.Common.{◌≡◌, ℕ, ◌<◌, drop, length, get_or, ◌+◌, ◌≤◌}
use Rattle.std.specs.Prelude.{All}
use Rattle.dlk_tree.specs.Trees.{size, size_all}
use Rattle.dlk_store.specs.Stores.{IsId, tree, kid_trees}
use Rattle.dlk_store.specs.declared.Id.{Id}
use Rattle.dlk_guard.specs.Smooth.{is_constant, are_constant}
use Rattle.dlk_guard.proofs.smooth.+is_constant.Given as goal

abbrev pub decreases-is_constant : goal.decreases-is_constant
decreases-is_constant g l = size (tree (g.S.Store.trees l.store.now) l.id)

-- the kids so far are
abbrev pub invariant-loop-kid : goal.invariant-loop-kid
invariant-loop-kid g l =
    let trees = g.S.Store.trees l.store in
    record {
      rest : are_constant (kid_trees trees (drop l.kid-index l.kid-items)) ≡ is_constant (tree trees l.fn.id);
      known : All (IsId trees) l.kid-items;
      cost : l.steps + size_all (kid_trees trees (drop l.kid-index l.kid-items)) ≤ l.fn.steps + size (tree trees l.fn.id);
      smaller : (i : ℕ) (d : Id) → i < length l.kid-items → size (tree trees (get_or l.kid-items i d)) < size (tree trees l.fn.id);
    }
