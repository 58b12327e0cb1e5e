use Rattle.dlk_sequent.proofs.Turns.{NoneSoFar}
use Rattle.dlk_sequent.proofs.spine.Spine.innermost.Given as goal

abbrev pub decreases-loop-formula : goal.decreases-loop-formula
decreases-loop-formula g l = l.outer

-- no formula is further inside
abbrev pub invariant-loop-formula : goal.invariant-loop-formula
invariant-loop-formula g l = NoneSoFar (g.S.Store.trees l.store) l.self l.outer l.formula
