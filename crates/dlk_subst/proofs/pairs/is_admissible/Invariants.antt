use Rattle.std.proofs.Common.{take}
use Rattle.std.specs.Prelude.{All}
use Rattle.dlk_store.specs.Stores.{kid_trees}
use Rattle.dlk_subst.specs.Scopes.{scope_set}
use Rattle.dlk_subst.proofs.Admissible.{IsSafe}
use Rattle.dlk_subst.proofs.pairs.is_admissible.Given as goal

-- the pairs so far are safe
abbrev pub invariant-loop-pair : goal.invariant-loop-pair
invariant-loop-pair g l =
    let trees = g.S.Store.trees l.store in
    All (IsSafe trees (scope_set trees l.scope) (kid_trees trees l.kids)) (take l.pair-index l.pairs)
