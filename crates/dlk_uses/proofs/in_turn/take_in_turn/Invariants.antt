use Rattle.std.proofs.Common.{map, take}
use Rattle.dlk_rules.specs.Steps.{step_at}
use Rattle.dlk_kernel.specs.Kernel.{facts, ExtendsRows}
use Rattle.dlk_kernel.specs.Taken.{Takes}
use Rattle.dlk_uses.proofs.in_turn.take_in_turn.Given as goal

-- the steps so far are taken
abbrev pub invariant-loop-step : goal.invariant-loop-step
invariant-loop-step g l = record {
  taken : Takes (facts g.S.Store.trees l.fn.kernel) (take l.step-index (map (step_at (g.S.Store.trees l.fn.kernel.store)) l.plan)) (facts g.S.Store.trees
      l.kernel);
  kept : ExtendsRows g.S.Store.trees l.fn.kernel l.kernel;
  grows : g.S.Store.grows l.fn.kernel.store l.kernel.store;
}
