use Rattle.std.proofs.Common.{◌≡◌, List, map, take, All}
use Rattle.dlk_tree.specs.Trees.{Tree}
use Rattle.dlk_rules.specs.Steps.{step_at, HasKnownIds}
use Rattle.dlk_session.proofs.copies.all_copied.Given as goal

abbrev pub invariant-loop-step : goal.invariant-loop-step
invariant-loop-step l = record {
  same : (trees : List Tree) → map (step_at trees) l.copies.items ≡ map (step_at trees) (take l.step-index l.steps);
  known : (trees : List Tree) → All (HasKnownIds trees) l.steps → All (HasKnownIds trees) l.copies.items;
}
