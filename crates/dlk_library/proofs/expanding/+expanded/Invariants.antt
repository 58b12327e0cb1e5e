use Rattle.std.proofs.Common.{take}
use Rattle.std.specs.List.{All}
use Rattle.dlk_tacsyn.specs.Ties.{TacticIsKnown}
use Rattle.dlk_library.specs.Expanded.{AllExpanded}
use Rattle.dlk_library.proofs.Walking.{parts_at}
use Rattle.dlk_library.proofs.expanding.+expanded.Given as goal

abbrev pub invariant-all_expanded-loop-t : goal.invariant-all_expanded-loop-t
invariant-all_expanded-loop-t g l = record {
  found : AllExpanded (parts_at (g.S.Store.trees l.store) (take l.t-index l.parts)) (parts_at (g.S.Store.trees l.store) l.new.items);
  known : All (TacticIsKnown (g.S.Store.trees l.store)) l.new.items;
}
