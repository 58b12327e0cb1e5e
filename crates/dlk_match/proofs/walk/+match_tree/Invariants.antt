use Rattle.std.proofs.Common.{◌≡◌, length}
use Rattle.std.specs.Prelude.{All}
use Rattle.dlk_tree.specs.declared.op.Op.{Op}
use Rattle.dlk_tree.specs.Trees.{node, size}
use Rattle.dlk_store.specs.Stores.{IsId, tree, kid_trees}
use Rattle.dlk_sequent.specs.Extras.{extra_at, IsKnownExtra}
use Rattle.dlk_match.proofs.LeftKids.{IsLeft}
use Rattle.dlk_match.proofs.walk.+match_tree.Given as goal

abbrev pub decreases-match_tree : goal.decreases-match_tree
decreases-match_tree g l = size (tree (g.S.Store.trees l.store.now) l.key)

-- the kids from the i-th on are left to match
abbrev pub invariant-loop-i : goal.invariant-loop-i
invariant-loop-i g l =
    let before = g.S.Store.trees l.fn.store in
    let now = g.S.Store.trees l.store in
    record {
      grows : g.S.Store.grows l.fn.store l.store;
      known : IsKnownExtra now l.extra;
      keys_known : All (IsId before) l.keys.items;
      left_known : All (IsId now) l.targets.items;
      as_many : length l.keys.items ≡ length l.targets.items;
      node_is : (op : Op) × (tree before l.fn.key ≡ node op (kid_trees before l.keys.items));
      is_left : IsLeft (tree before l.fn.key) (tree before l.fn.target) (extra_at before l.fn.extra) now l.keys.items l.targets.items l.i
          (extra_at now l.extra);
    }
