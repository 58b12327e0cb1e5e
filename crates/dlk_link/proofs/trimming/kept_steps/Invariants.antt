use Rattle.std.specs.Vec.Iter.{into_iter_items}
use Rattle.dlk_link.proofs.KeptSteps.{RowsLeft}
use Rattle.dlk_link.proofs.trimming.kept_steps.Given as goal

abbrev pub invariant-loop-step : goal.invariant-loop-step
invariant-loop-step l = RowsLeft l.fn.term.items (into_iter_items l.step-iterator) l.kept.steps.items l.kept.keys.keys l.numbers.items
