use Rattle.std.proofs.Common.{◌≡◌, ◌++◌}
use Rattle.dlk_elab.proofs.forms.joined.Given as goal

abbrev pub invariant-loop-step : goal.invariant-loop-step
invariant-loop-step l = l.steps.items ≡ l.initial.steps.items ++ l.yielded
