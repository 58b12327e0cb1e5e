use Rattle.std.proofs.Common.{◌+◌, ◌*◌, ◌≤◌}
use Rattle.dlk_sequent.proofs.Pairs.{AreGoodBefore}
use Rattle.dlk_sequent.proofs.well_formed.check_few.Given as goal

-- none of the first i pairs is bad
abbrev pub invariant-loop-i : goal.invariant-loop-i
invariant-loop-i g l = record { good : AreGoodBefore (g.S.Store.trees l.store) l.pairs l.i; few : l.steps ≤ l.fn.steps + 2 * l.i }
