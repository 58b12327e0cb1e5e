use Rattle.std.proofs.Common.{◌-◌, drop, ◌+◌, ◌*◌, length, reverse}
use Rattle.dlk_tacsyn.specs.Ties.{tactic_at}
use Rattle.dlk_strategy.specs.Runs.{Each, InTurn, OnOwn, Runs, Again, most_runs, Alternatives}
use Rattle.dlk_strategy.specs.Ties.{on_one, tactics_of, now, IsBack}
use Rattle.dlk_strategy.proofs.Reached.{Reached, Leads}
use Rattle.dlk_calculus.specs.Limits.{most_goals}
use Rattle.dlk_strategy.proofs.Repeating.{Waits}
use Rattle.dlk_strategy.proofs.Choosing.{Choices}
use Rattle.dlk_strategy.proofs.running.+run.Given as goal

abbrev pub invariant-in_turn-loop-t : goal.invariant-in_turn-loop-t
invariant-in_turn-loop-t g l = record {
  grows : g.S.Store.grows l.initial.kernel.store l.kernel.store;
  reached : Reached g.S.Store.trees l.initial.kernel l.initial.trace l.kernel l.trace 1 l.goals
      (InTurn (tactics_of (g.S.Store.trees l.initial.kernel.store) l.parts) 1 l.goal)
      (InTurn (tactics_of (g.S.Store.trees l.initial.kernel.store) (drop l.t-index l.parts)) l.goals l.goal);
}

abbrev pub invariant-branch-loop-t : goal.invariant-branch-loop-t
invariant-branch-loop-t g l = record {
  grows : g.S.Store.grows l.initial.kernel.store l.kernel.store;
  reached : Reached g.S.Store.trees l.initial.kernel l.initial.trace l.kernel l.trace l.t-index l.left
      (OnOwn (tactics_of (g.S.Store.trees l.initial.kernel.store) l.parts) l.goal 0)
      (OnOwn (tactics_of (g.S.Store.trees l.initial.kernel.store) (drop l.t-index l.parts)) l.goal l.left);
}

abbrev pub invariant-run_goals-loop : goal.invariant-run_goals-loop
invariant-run_goals-loop g l = record {
  grows : g.S.Store.grows l.initial.kernel.store l.kernel.store;
  reached : Reached g.S.Store.trees l.initial.kernel l.initial.trace l.kernel l.trace l.counter l.left
      (Each (on_one (tactic_at (g.S.Store.trees l.initial.kernel.store) l.t)) l.goals l.goal 0)
      (Each (on_one (tactic_at (g.S.Store.trees l.initial.kernel.store) l.t)) (l.goals - l.counter) l.goal l.left);
}

abbrev pub invariant-choose-loop-t : goal.invariant-choose-loop-t
invariant-choose-loop-t g l = record {
  grows : g.S.Store.grows l.initial.kernel.store l.kernel.store;
  back : IsBack g.S.Store.trees l.initial.kernel l.initial.trace l.kernel l.trace;
  leads : Leads (Alternatives (tactics_of (g.S.Store.trees l.initial.kernel.store) l.fn.parts) l.goal)
      (Choices (g.S.Store.trees l.initial.kernel.store) (drop l.t-index l.earlier) l.last l.goal)
      (now g.S.Store.trees l.initial.kernel l.initial.trace) (now g.S.Store.trees l.kernel l.trace);
}

abbrev pub invariant-repeat-loop-turns : goal.invariant-repeat-loop-turns
invariant-repeat-loop-turns g l = record {
  grows : g.S.Store.grows l.initial.kernel.store l.kernel.store;
  reached : Reached g.S.Store.trees l.initial.kernel l.initial.trace l.kernel l.trace 1 (l.left + length l.waiting.items)
      (Again (Runs (tactic_at (g.S.Store.trees l.initial.kernel.store) l.body) 1) l.times l.goal)
      (Waits (Runs (tactic_at (g.S.Store.trees l.initial.kernel.store) l.body) 1) (reverse l.waiting.items) l.goal l.left);
}

abbrev pub decreases-repeat-loop-turns : goal.decreases-repeat-loop-turns
decreases-repeat-loop-turns g l = (most_runs - l.trace.used) * (most_goals + 1) + length l.waiting.items
