use Rattle.dlk_tacsyn.specs.Ties.{atom_at}
use Rattle.dlk_strategy.specs.Ties.{now, IsBack}
use Rattle.dlk_strategy.proofs.Trying.{Leads}
use Rattle.dlk_strategy.proofs.atoms.try_places.Given as goal

abbrev pub invariant-loop-place : goal.invariant-loop-place
invariant-loop-place g l = record {
  grows : g.S.Store.grows l.initial.kernel.store l.kernel.store;
  back : IsBack g.S.Store.trees l.initial.kernel l.initial.trace l.kernel l.trace;
  leads : Leads (atom_at (g.S.Store.trees l.initial.kernel.store) l.atom) l.fn.side l.goal l.place l.why (now g.S.Store.trees l.initial.kernel l.initial.trace)
      (now g.S.Store.trees l.kernel l.trace);
}
