use Rattle.std.proofs.Common.{length}
use Rattle.dlk_nodes.proofs.SidesRead.{SidesSoFar}
use Rattle.dlk_nodes.proofs.sequents.sides.Given as goal

-- the nodes so far, with those that are left
abbrev pub invariant-loop-right : goal.invariant-loop-right
invariant-loop-right l = SidesSoFar l.table l.text l.left l.ante.items

abbrev pub decreases-loop-right : goal.decreases-loop-right
decreases-loop-right l = length l.left
