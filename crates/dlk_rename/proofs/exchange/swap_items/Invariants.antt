use Rattle.std.proofs.Common.{◌≡◌, map, take}
use Rattle.dlk_calculus.specs.Rename.{swap_item}
use Rattle.dlk_rename.proofs.exchange.swap_items.Given as goal

abbrev pub invariant-loop-item : goal.invariant-loop-item
invariant-loop-item l = l.swapped.items ≡ map (swap_item l.x l.y) (take l.item-index l.item-items)
