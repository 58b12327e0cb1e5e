use Rattle.dlk_link.proofs.Marks.{SoFar}
use Rattle.dlk_link.proofs.needed.needed.Given as goal

abbrev pub invariant-loop-row : goal.invariant-loop-row
invariant-loop-row l = SoFar l.term l.row l.marks.items

abbrev pub decreases-loop-row : goal.decreases-loop-row
decreases-loop-row l = l.row
