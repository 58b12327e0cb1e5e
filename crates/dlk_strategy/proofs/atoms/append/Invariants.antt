use Rattle.std.proofs.Common.{◌≡◌, ◌++◌}
use Rattle.dlk_strategy.proofs.atoms.append.Given as goal

abbrev pub invariant-loop-step : goal.invariant-loop-step
invariant-loop-step l = l.into.items ≡ l.initial.into.items ++ l.yielded
