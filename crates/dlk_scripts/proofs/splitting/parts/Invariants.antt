use Rattle.std.proofs.Common.{◌-◌, length}
use Rattle.dlk_scripts.proofs.Parting.{Come}
use Rattle.dlk_scripts.proofs.splitting.parts.Given as goal

-- the bytes before the place have been read
abbrev pub invariant-loop-at : goal.invariant-loop-at
invariant-loop-at l = Come l.bytes l.at l.state

abbrev pub decreases-loop-at : goal.decreases-loop-at
decreases-loop-at l = length l.bytes - l.at
