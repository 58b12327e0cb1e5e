use Rattle.std.proofs.Common.{◌≤◌, length, drop}
use Rattle.dlk_sequent.proofs.Turns.{PutSoFar}
use Rattle.dlk_sequent.proofs.spine.Spine.put.Given as goal

abbrev pub decreases-loop-left : goal.decreases-loop-left
decreases-loop-left g l = l.left

-- the nodes from here on are made
abbrev pub invariant-loop-left : goal.invariant-loop-left
invariant-loop-left g l =
    record {
      grows : g.S.Store.grows l.fn.store l.store;
      within : l.left ≤ length l.self-inside.turns.items;
      put : PutSoFar (g.S.Store.trees l.fn.store) (g.S.Store.trees l.store) (drop l.left l.self-inside.turns.items) l.self-inside.found l.fn.new l.made;
    }
