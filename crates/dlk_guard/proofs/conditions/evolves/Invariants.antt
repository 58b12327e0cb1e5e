use Rattle.std.proofs.Common.{◌≡◌, drop}
use Rattle.std.specs.List.{list_any}
use Rattle.std.specs.Str.{bytes_eq}
use Rattle.dlk_tree.specs.Table.{evolved}
use Rattle.dlk_guard.proofs.conditions.evolves.Given as goal

-- none of the items so far does
abbrev pub invariant-loop-item : goal.invariant-loop-item
invariant-loop-item l = list_any (bytes_eq l.x) (evolved l.items) ≡ list_any (bytes_eq l.x) (evolved (drop l.item-index l.items))
