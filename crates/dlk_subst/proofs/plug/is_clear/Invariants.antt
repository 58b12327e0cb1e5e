use Rattle.std.proofs.Common.{◌≡◌, ℕ, ◌<◌, get_or}
use Rattle.dlk_store.specs.Stores.{kid_trees}
use Rattle.dlk_subst.specs.Scopes.{scope_set}
use Rattle.dlk_subst.proofs.Arguments.{IsSafe}
use Rattle.dlk_subst.proofs.plug.is_clear.Given as goal

-- the arguments so far are safe
abbrev pub invariant-loop-arg : goal.invariant-loop-arg
invariant-loop-arg g l =
    let trees = g.S.Store.trees l.store in
    record {
      count : l.n ≡ l.arg-index;
      safe : (m : ℕ) → m < l.arg-index → IsSafe trees (scope_set trees l.scope) (kid_trees trees l.kids) m (get_or l.args m (record { 0 = 0 }));
    }
