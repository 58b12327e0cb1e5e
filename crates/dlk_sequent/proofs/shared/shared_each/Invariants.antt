use Rattle.std.proofs.Common.{◌≡◌}
use Rattle.dlk_sequent.proofs.shared.shared_each.Given as goal

-- the first values have an owner
abbrev pub invariant-loop-value : goal.invariant-loop-value
invariant-loop-value g l = l.all.items ≡ l.yielded
