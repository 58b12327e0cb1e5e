use Rattle.std.proofs.Common.{◌≡◌, map, take}
use Rattle.std.specs.List.{All}
use Rattle.dlk_store.specs.Stores.{IsId, tree}
use Rattle.dlk_calculus.specs.Rename.{swap}
use Rattle.dlk_kernel.proofs.renaming.swap_ids.Given as goal

abbrev pub invariant-loop-id : goal.invariant-loop-id
invariant-loop-id g l = record {
  grows : g.S.Store.grows l.initial.store l.store;
  known : All (IsId (g.S.Store.trees l.store)) l.made;
  made : map (tree (g.S.Store.trees l.store)) l.made ≡ map (swap l.x l.y) (map (tree (g.S.Store.trees l.initial.store)) (take l.id-index l.ids));
}
