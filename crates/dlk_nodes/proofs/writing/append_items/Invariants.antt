use Rattle.std.proofs.Common.{drop}
use Rattle.std.specs.List.{join_by}
use Rattle.std.specs.Prelude.{codes}
use Rattle.dlk_print.proofs.Left.{Left}
use Rattle.dlk_nodes.specs.Words.{item_text}
use Rattle.dlk_nodes.proofs.WrittenLaws.{later_items}
use Rattle.dlk_nodes.proofs.writing.append_items.Given as goal

-- the items from here on are left
abbrev pub invariant-loop-item : goal.invariant-loop-item
invariant-loop-item l = Left l.fn.out.items (join_by item_text (codes ",") l.fn.items) l.out.items (later_items (drop l.item-index l.rest))
