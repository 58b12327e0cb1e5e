use Rattle.std.proofs.Common.{List, ◌+◌, ◌≤◌, length, map}
use Rattle.std.specs.List.{All}
use Rattle.dlk_tree.specs.Trees.{Tree}
use Rattle.dlk_rules.specs.Steps.{HasKnownIds}
use Rattle.dlk_sequent.specs.Sequents.{sequent_at}
use Rattle.dlk_link.proofs.LinkedSteps.{MergesSoFar}
use Rattle.dlk_link.proofs.linking.merges_into.Given as goal

abbrev pub invariant-loop-goal : goal.invariant-loop-goal
invariant-loop-goal g l = record {
  within : l.goal ≤ length l.goals;
  few : l.rows + l.goal ≤ l.by + length l.goals;
  so_far : MergesSoFar (sequent_at (g.S.Store.trees l.store) l.c) l.by l.main (map (sequent_at (g.S.Store.trees l.store)) l.goals) (g.S.Store.trees l.store)
      l.goal l.fact
      l.rows l.merges.items;
  known : (trees : List Tree) → All (HasKnownIds trees) l.merges.items;
}

abbrev pub decreases-loop-goal : goal.decreases-loop-goal
decreases-loop-goal g l = l.goal
