use Rattle.std.proofs.Common.{map}
use Rattle.dlk_store.specs.Stores.{tree}
use Rattle.dlk_elab.proofs.Sames.{Clear}
use Rattle.dlk_elab.proofs.same.first_place.Given as goal

-- none of the formulas so far is the one that is looked for
abbrev pub invariant-loop-i : goal.invariant-loop-i
invariant-loop-i g l = Clear (map (tree (g.S.Store.trees l.store)) l.side) l.i (tree (g.S.Store.trees l.store) l.f)
