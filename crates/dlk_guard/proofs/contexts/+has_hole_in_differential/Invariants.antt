use Rattle.std.proofs.Common.{◌≡◌, ℕ, ◌<◌, drop, length, get_or, ◌+◌, ◌≤◌}
use Rattle.std.specs.Prelude.{All}
use Rattle.dlk_tree.specs.Trees.{size, size_all}
use Rattle.dlk_store.specs.Stores.{IsId, tree, kid_trees}
use Rattle.dlk_store.specs.declared.Id.{Id}
use Rattle.dlk_guard.specs.Guarded.{has_hole_in_differential, any_hole_in_differential}
use Rattle.dlk_guard.proofs.contexts.+has_hole_in_differential.Given as goal

abbrev pub decreases-has_hole_in_differential : goal.decreases-has_hole_in_differential
decreases-has_hole_in_differential g l = size (tree (g.S.Store.trees l.store.now) l.id)

-- none of the kids so far has it
abbrev pub invariant-loop-kid : goal.invariant-loop-kid
invariant-loop-kid g l =
    let trees = g.S.Store.trees l.store in
    record {
      rest : any_hole_in_differential (kid_trees trees (drop l.kid-index l.kid-items)) ≡ has_hole_in_differential (tree trees l.fn.id);
      known : All (IsId trees) l.kid-items;
      cost : l.steps + size_all (kid_trees trees (drop l.kid-index l.kid-items)) ≤ l.fn.steps + size (tree trees l.fn.id);
      smaller : (i : ℕ) (d : Id) → i < length l.kid-items → size (tree trees (get_or l.kid-items i d)) < size (tree trees l.fn.id);
    }
