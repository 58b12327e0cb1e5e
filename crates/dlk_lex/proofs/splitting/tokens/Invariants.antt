use Rattle.std.proofs.Common.{◌-◌, length}
use Rattle.dlk_lex.specs.Taken.{SplitsUpTo}
use Rattle.dlk_lex.proofs.splitting.tokens.Given as goal

-- the bytes so far are the tokens so far
abbrev pub invariant-loop-out : goal.invariant-loop-out
invariant-loop-out l = SplitsUpTo l.bytes 0 l.at l.out.items

abbrev pub decreases-loop-out : goal.decreases-loop-out
decreases-loop-out l = length l.bytes - l.at
