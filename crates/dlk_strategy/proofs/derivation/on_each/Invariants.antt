use Rattle.std.proofs.Common.{◌-◌}
use Rattle.dlk_tacsyn.specs.Ties.{atom_at}
use Rattle.dlk_strategy.specs.Runs.{Each, RunAtom}
use Rattle.dlk_strategy.proofs.Reached.{Reached}
use Rattle.dlk_strategy.proofs.derivation.on_each.Given as goal

abbrev pub invariant-loop : goal.invariant-loop
invariant-loop g l = record {
  grows : g.S.Store.grows l.initial.kernel.store l.kernel.store;
  reached : Reached g.S.Store.trees l.initial.kernel l.initial.trace l.kernel l.trace l.counter l.left
      (Each (RunAtom (atom_at (g.S.Store.trees l.initial.kernel.store) l.atom)) l.goals l.goal 0)
      (Each (RunAtom (atom_at (g.S.Store.trees l.initial.kernel.store) l.atom)) (l.goals - l.counter) l.goal l.left);
}
