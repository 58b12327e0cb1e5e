use Rattle.std.proofs.Common.{length}
use Rattle.dlk_lines.specs.Spelled.{Names}
use Rattle.dlk_nodes.proofs.Parted.{SoFar}
use Rattle.dlk_nodes.proofs.numbers.nodes_numbered.Given as goal

-- the fields so far are numbers of these nodes
abbrev pub invariant-loop-number : goal.invariant-loop-number
invariant-loop-number l = SoFar (Names l.table) 32 l.text l.left l.ids.items

abbrev pub decreases-loop-number : goal.decreases-loop-number
decreases-loop-number l = length l.left
