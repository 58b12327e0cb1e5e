use Rattle.std.proofs.Common.{◌≡◌, ◌+◌, ◌-◌, ◌*◌, ◌<◌, ◌^◌, take}
use Rattle.std.specs.List.{fold}
use Rattle.dlk_scripts.proofs.bytes.number.Given as goal

-- the value of the digits so far
abbrev pub invariant-loop-digit : goal.invariant-loop-digit
invariant-loop-digit l = (l.value ≡ fold (λ n b. 10 * n + (b - 48)) 0 (take l.digit-index l.digits)) × (l.value < 10 ^ l.digit-index)
