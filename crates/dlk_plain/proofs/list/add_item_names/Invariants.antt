use Rattle.std.proofs.Common.{drop}
use Rattle.std.specs.List.{list_any}
use Rattle.std.specs.Str.{bytes_eq}
use Rattle.dlk_tree.specs.Named.{any_item_name}
use Rattle.dlk_plain.proofs.Owed.{Owes}
use Rattle.dlk_plain.proofs.list.add_item_names.Given as goal

abbrev pub invariant-loop-item : goal.invariant-loop-item
invariant-loop-item l = Owes bytes_eq (λ y. list_any (any_item_name (bytes_eq y)) (drop l.item-index l.items))
    (λ y. list_any (any_item_name (bytes_eq y)) l.items) l.fn.names.keys l.names.keys
