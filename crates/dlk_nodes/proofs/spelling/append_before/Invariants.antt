use Rattle.std.proofs.Common.{drop}
use Rattle.dlk_print.proofs.Left.{Left}
use Rattle.dlk_nodes.proofs.WrittenLaws.{numbers_left}
use Rattle.dlk_nodes.proofs.spelling.append_before.Given as goal

-- the nodes from here on are left
abbrev pub invariant-loop-id : goal.invariant-loop-id
invariant-loop-id l = Left l.fn.out.items (numbers_left l.table l.ids) l.out.items (numbers_left l.table (drop l.id-index l.ids))
