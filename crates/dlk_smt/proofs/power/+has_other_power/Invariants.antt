use Rattle.std.proofs.Common.{◌≡◌, ℕ, ◌<◌, drop, length, get_or}
use Rattle.std.specs.Prelude.{All}
use Rattle.dlk_tree.specs.Trees.{size}
use Rattle.dlk_store.specs.Stores.{IsId, tree, kid_trees}
use Rattle.dlk_store.specs.declared.Id.{Id}
use Rattle.dlk_smt.specs.Smt.{has_other_power, any_has_other_power}
use Rattle.dlk_smt.proofs.power.+has_other_power.Given as goal

abbrev pub decreases-has_other_power : goal.decreases-has_other_power
decreases-has_other_power g l = size (tree (g.S.Store.trees l.store.now) l.id)

-- the kids so far have no such power
abbrev pub invariant-loop-kid : goal.invariant-loop-kid
invariant-loop-kid g l =
    let trees = g.S.Store.trees l.store in
    record {
      rest : any_has_other_power (kid_trees trees (drop l.kid-index l.kid-items)) ≡ has_other_power (tree trees l.fn.id);
      known : All (IsId trees) l.kid-items;
      smaller : (i : ℕ) (d : Id) → i < length l.kid-items → size (tree trees (get_or l.kid-items i d)) < size (tree trees l.fn.id);
    }
