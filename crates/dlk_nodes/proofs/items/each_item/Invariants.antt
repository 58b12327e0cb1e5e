use Rattle.std.proofs.Common.{length}
use Rattle.dlk_nodes.specs.Details.{SpellsItem}
use Rattle.dlk_nodes.proofs.Parted.{SoFar}
use Rattle.dlk_nodes.proofs.items.each_item.Given as goal

-- the items of the parts so far
abbrev pub invariant-loop-part : goal.invariant-loop-part
invariant-loop-part l = SoFar SpellsItem 44 l.text l.left l.items.items

abbrev pub decreases-loop-part : goal.decreases-loop-part
decreases-loop-part l = length l.left
