use Rattle.std.proofs.Common.{◌++◌, drop}
use Rattle.std.specs.Prelude.{codes}
use Rattle.std.specs.List.{flat_map}
use Rattle.dlk_print.proofs.Left.{Left}
use Rattle.dlk_nodes.specs.Tables.{id_text}
use Rattle.dlk_nodes.proofs.writing.append_behind.Given as goal

-- the nodes from here on are left
abbrev pub invariant-loop-id : goal.invariant-loop-id
invariant-loop-id l =
    Left l.fn.out.items (flat_map (λ id. codes " " ++ id_text l.table id) l.ids) l.out.items
    (flat_map (λ id. codes " " ++ id_text l.table id) (drop l.id-index l.ids))
