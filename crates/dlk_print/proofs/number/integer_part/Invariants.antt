use Rattle.std.proofs.Common.{◌≡◌, ◌/◌, ◌^◌}
use Rattle.dlk_print.proofs.number.integer_part.Given as goal

-- what is still divided gives the same
abbrev pub invariant-loop-scale : goal.invariant-loop-scale
invariant-loop-scale l = l.left / 10 ^ l.scale ≡ l.n.digits / 10 ^ l.n.scale

abbrev pub decreases-loop-scale : goal.decreases-loop-scale
decreases-loop-scale l = l.scale
