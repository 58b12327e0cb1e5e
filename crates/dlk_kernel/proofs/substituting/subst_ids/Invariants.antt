use Rattle.std.proofs.Common.{◌+◌, ◌≤◌, map, take}
use Rattle.std.specs.Prelude.{IsTrue}
use Rattle.std.specs.List.{All, sum_by}
use Rattle.dlk_store.specs.Stores.{IsId, tree}
use Rattle.dlk_calculus.specs.Provables.{SubstEach}
use Rattle.dlk_sequent.specs.Substitutions.{pairs_at}
use Rattle.dlk_memo.specs.Looks.{most_looks}
use Rattle.dlk_kernel.proofs.substituting.subst_ids.Given as goal

abbrev pub invariant-loop-id : goal.invariant-loop-id
invariant-loop-id g l =
    let old = g.S.Store.trees l.initial.store in
    record {
      grows : g.S.Store.grows l.initial.store l.store;
      known : All (IsId (g.S.Store.trees l.store)) l.made;
      made : SubstEach (pairs_at old l.sigma.pairs) (map (tree old) (take l.id-index l.ids)) (map (tree (g.S.Store.trees l.store)) l.made);
      looks : IsTrue g.S.Store.unique → l.steps ≤ l.initial.steps + sum_by (most_looks (pairs_at old l.sigma.pairs)) (map (tree old) (take l.id-index l.ids));
    }
