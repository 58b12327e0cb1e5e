use Rattle.std.proofs.Common.{◌+◌, ◌≤◌}
use Rattle.dlk_sequent.proofs.Turns.{Walked}
use Rattle.dlk_sequent.proofs.path.subtree.Given as goal

-- the node that the first kids lead to, and what is left of the path
abbrev pub invariant-loop-kid : goal.invariant-loop-kid
invariant-loop-kid g l = record {
  walked : Walked (g.S.Store.trees l.store) l.fn.id l.path l.at l.kid-index;
  cost : l.steps ≤ l.fn.steps + l.kid-index;
}
