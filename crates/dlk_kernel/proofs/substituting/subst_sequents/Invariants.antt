use Rattle.std.proofs.Common.{◌+◌, ◌≤◌, map, take}
use Rattle.std.specs.Prelude.{IsTrue}
use Rattle.std.specs.List.{All, sum_by}
use Rattle.dlk_calculus.specs.Provables.{SubstSequents}
use Rattle.dlk_sequent.specs.Sequents.{sequent_at, IsKnown}
use Rattle.dlk_sequent.specs.Substitutions.{pairs_at}
use Rattle.dlk_kernel.specs.Looks.{sequent_looks}
use Rattle.dlk_kernel.proofs.substituting.subst_sequents.Given as goal

abbrev pub invariant-loop-s : goal.invariant-loop-s
invariant-loop-s g l =
    let old = g.S.Store.trees l.initial.store in
    record {
      grows : g.S.Store.grows l.initial.store l.store;
      known : All (IsKnown (g.S.Store.trees l.store)) l.made;
      made : SubstSequents (pairs_at old l.sigma.pairs) (map (sequent_at old) (take l.s-index l.all)) (map (sequent_at (g.S.Store.trees l.store)) l.made);
      looks : IsTrue g.S.Store.unique → l.steps ≤ l.initial.steps + sum_by (sequent_looks (pairs_at old l.sigma.pairs))
          (map (sequent_at old) (take l.s-index l.all));
    }
