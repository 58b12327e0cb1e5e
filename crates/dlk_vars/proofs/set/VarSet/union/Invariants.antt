use Rattle.std.proofs.Common.{bit_or, ◌≤◌, ◌-◌}
use Rattle.dlk_vars.proofs.Words.{Joined}
use Rattle.dlk_vars.proofs.set.VarSet.union.Given as goal

-- the words so far are those of the union
abbrev pub invariant-loop-at : goal.invariant-loop-at
invariant-loop-at l = record { within : l.at ≤ l.len; made : Joined bit_or l.self l.other l.words.items l.at }

abbrev pub decreases-loop-at : goal.decreases-loop-at
decreases-loop-at l = l.len - l.at

abbrev pub invariant-loop-k : goal.invariant-loop-k
invariant-loop-k l = Joined bit_or l.self l.other l.words.items l.k
