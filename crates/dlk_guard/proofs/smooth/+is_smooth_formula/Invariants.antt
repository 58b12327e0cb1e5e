use Rattle.std.proofs.Common.{◌≡◌, ℕ, ◌<◌, map, drop, length, get_or, ◌+◌, ◌*◌, ◌≤◌}
use Rattle.std.specs.Prelude.{All}
use Rattle.dlk_tree.specs.Trees.{size, size_all, depth}
use Rattle.dlk_store.specs.Stores.{IsId, tree, kid_trees}
use Rattle.dlk_store.specs.declared.Id.{Id}
use Rattle.dlk_guard.specs.Smooth.{is_smooth_formula, are_smooth_formulas}
use Rattle.dlk_guard.specs.Looks.{smooth_looks}
use Rattle.dlk_guard.proofs.smooth.+is_smooth_formula.Given as goal

abbrev pub decreases-is_smooth_formula : goal.decreases-is_smooth_formula
decreases-is_smooth_formula g l = size (tree (g.S.Store.trees l.store.now) l.id)

-- the kids so far are
abbrev pub invariant-loop-kid : goal.invariant-loop-kid
invariant-loop-kid g l =
    let trees = g.S.Store.trees l.store in
    let domain = map (tree trees) l.domain in
    record {
      rest : are_smooth_formulas domain (kid_trees trees (drop l.kid-index l.kid-items)) ≡ is_smooth_formula domain (tree trees l.fn.id);
      known : All (IsId trees) l.kid-items;
      cost : l.steps + size_all (kid_trees trees (drop l.kid-index l.kid-items)) * (depth (tree trees l.fn.id) + 3 * length l.domain)
          ≤ l.fn.steps + smooth_looks (length l.domain) (tree trees l.fn.id);
      shallower : (i : ℕ) (d : Id) → i < length l.kid-items → depth (tree trees (get_or l.kid-items i d)) < depth (tree trees l.fn.id);
      smaller : (i : ℕ) (d : Id) → i < length l.kid-items → size (tree trees (get_or l.kid-items i d)) < size (tree trees l.fn.id);
    }
