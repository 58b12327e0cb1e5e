use Rattle.std.proofs.Common.{◌≡◌, ◌++◌, ◌+◌, List, map}
use Rattle.std.specs.List.{All}
use Rattle.std.specs.Vec.Iter.{into_iter_items}
use Rattle.dlk_tree.specs.Trees.{Tree}
use Rattle.dlk_rules.specs.Facts.{renumbered}
use Rattle.dlk_rules.specs.Steps.{step_at, HasKnownIds}
use Rattle.dlk_link.specs.Marks.{NamesFew}
use Rattle.dlk_link.proofs.linking.behind_rows.Given as goal

-- what is made, and what is left to be made
abbrev pub invariant-loop-step : goal.invariant-loop-step
invariant-loop-step l = record {
  few : All NamesFew (into_iter_items l.step-iterator);
  steps : (trees : List Tree) →
      map (step_at trees) l.made.items ++ map (renumbered (λ fact. fact + l.rows)) (map (step_at trees) (into_iter_items l.step-iterator))
      ≡ map (renumbered (λ fact. fact + l.rows)) (map (step_at trees) l.fn.lemma.items);
  known : (trees : List Tree) → All (HasKnownIds trees) l.fn.lemma.items →
      All (HasKnownIds trees) l.made.items × All (HasKnownIds trees) (into_iter_items l.step-iterator);
}
