use Rattle.std.proofs.Common.{◌≡◌, ◌+◌, ◌*◌, ◌≤◌, map, drop}
use Rattle.std.specs.List.{list_any}
use Rattle.dlk_store.specs.Stores.{tree}
use Rattle.dlk_guard.specs.Smooth.{says_constant}
use Rattle.dlk_guard.proofs.parts.is_frozen.Given as goal

-- none of the parts so far does
abbrev pub invariant-loop-part : goal.invariant-loop-part
invariant-loop-part g l =
    let trees = map (tree (g.S.Store.trees l.store)) in
    record {
      rest : list_any (says_constant l.x) (trees l.domain) ≡ list_any (says_constant l.x) (trees (drop l.part-index l.domain));
      cost : l.steps ≤ l.fn.steps + 3 * l.part-index;
    }
