use Rattle.std.proofs.Common.{◌≡◌, map, take}
use Rattle.std.specs.List.{All}
use Rattle.dlk_calculus.specs.Provables.{swap_sequent}
use Rattle.dlk_sequent.specs.Sequents.{sequent_at, IsKnown}
use Rattle.dlk_kernel.proofs.renaming.swap_sequents.Given as goal

abbrev pub invariant-loop-s : goal.invariant-loop-s
invariant-loop-s g l = record {
  grows : g.S.Store.grows l.initial.store l.store;
  known : All (IsKnown (g.S.Store.trees l.store)) l.made;
  made : map (sequent_at (g.S.Store.trees l.store)) l.made ≡ map (swap_sequent l.x l.y)
      (map (sequent_at (g.S.Store.trees l.initial.store)) (take l.s-index l.all));
}
