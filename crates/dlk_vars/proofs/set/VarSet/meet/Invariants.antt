use Rattle.std.proofs.Common.{bit_and}
use Rattle.dlk_vars.proofs.Words.{Joined}
use Rattle.dlk_vars.proofs.set.VarSet.meet.Given as goal

-- the words so far are those of the meet
abbrev pub invariant-loop-k : goal.invariant-loop-k
invariant-loop-k l = Joined bit_and l.self l.other l.words.items l.k
