use Rattle.std.proofs.Common.{◌≡◌, List, ◌++◌, map, take}
use Rattle.std.specs.List.{All}
use Rattle.dlk_calculus.specs.Sequents.{Sequent as TreeSequent}
use Rattle.dlk_calculus.specs.Provables.{AreNew}
use Rattle.dlk_sequent.specs.Sequents.{sequent_at, IsKnown}
use Rattle.dlk_kernel.proofs.leaves.append_new.Given as goal

-- the old leaves, and behind them those that are new among the others so far
abbrev pub invariant-loop-s : goal.invariant-loop-s
invariant-loop-s g l =
    let trees = map (sequent_at (g.S.Store.trees l.store)) in
    record {
      known : All (IsKnown (g.S.Store.trees l.store)) l.all;
      joined : (new : List TreeSequent) × AreNew (trees l.old) (trees (take l.s-index l.more)) new × (trees l.all ≡ trees l.old ++ new);
    }
