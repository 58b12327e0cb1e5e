use Rattle.dlk_print.proofs.Digits.{Written}
use Rattle.dlk_print.proofs.number.append_short.Given as goal

abbrev pub invariant-loop-left : goal.invariant-loop-left
invariant-loop-left l = Written l.n l.left l.first l.digits

abbrev pub decreases-loop-left : goal.decreases-loop-left
decreases-loop-left l = l.left
