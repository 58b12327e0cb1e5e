use Rattle.std.proofs.Common.{◌≡◌, ◌+◌, ◌-◌, ◌*◌, ◌<◌, ◌^◌, length, take}
use Rattle.std.specs.List.{fold}
use Rattle.dlk_nodes.proofs.literals.with_digits.Given as goal

-- the value of the digits so far
abbrev pub invariant-loop-digit : goal.invariant-loop-digit
invariant-loop-digit l =
    (l.value ≡ fold (λ n b. 10 * n + (b - 48)) l.number (take l.digit-index l.digits)) × (l.value < 10 ^ ((38 - length l.digits) + l.digit-index))
