use Rattle.std.proofs.Common.{map}
use Rattle.std.specs.List.{All}
use Rattle.std.specs.Vec.Iter.{into_iter_items}
use Rattle.dlk_tacsyn.specs.Rows.{IsFitting}
use Rattle.dlk_tacsyn.specs.Ties.{atom_at, AtomIsKnown}
use Rattle.dlk_strategy.specs.Runs.{OneByOne}
use Rattle.dlk_strategy.specs.Ties.{at_byte}
use Rattle.dlk_strategy.proofs.Reached.{Reached}
use Rattle.dlk_strategy.proofs.derivation.one_by_one.Given as goal

-- what becomes of the atoms that are left is what becomes of all
abbrev pub invariant-loop-a : goal.invariant-loop-a
invariant-loop-a g l = record {
  grows : g.S.Store.grows l.initial.kernel.store l.kernel.store;
  known : All (AtomIsKnown (g.S.Store.trees l.initial.kernel.store)) (into_iter_items l.a-iterator);
  fitting : All IsFitting (map (atom_at (g.S.Store.trees l.initial.kernel.store)) (into_iter_items l.a-iterator));
  reached : Reached g.S.Store.trees l.initial.kernel l.initial.trace l.kernel l.trace 1 l.goals
      (OneByOne (map (at_byte l.at) (map (atom_at (g.S.Store.trees l.initial.kernel.store)) l.fn.atoms.items)) 1 l.goal)
      (OneByOne (map (at_byte l.at) (map (atom_at (g.S.Store.trees l.initial.kernel.store)) (into_iter_items l.a-iterator))) l.goals l.goal);
}
