use Rattle.std.proofs.Common.{◌-◌, [], length}
use Rattle.dlk_lex.specs.Taken.{SplitsUpTo}
use Rattle.dlk_lex.proofs.splitting.first_token.Given as goal

-- only spaces and comments so far
abbrev pub invariant-loop-at : goal.invariant-loop-at
invariant-loop-at l = SplitsUpTo l.bytes l.from l.at []

abbrev pub decreases-loop-at : goal.decreases-loop-at
decreases-loop-at l = length l.bytes - l.at
