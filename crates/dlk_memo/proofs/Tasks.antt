-- What a task says of the operator.
use Rattle.std.proofs.Common.{◌≡◌, refl, ap, false, List, [], Option, Some, None}
use Rattle.dlk_tree.specs.declared.op.OdeItem.{OdeItem}
use Rattle.dlk_tree.specs.declared.op.Op.{Op}
use Rattle.dlk_tree.specs.declared.op.Op.TheVariants as Op'
use Rattle.dlk_subst.proofs.Effects.{is_system}
use Rattle.dlk_memo.specs.Tasks.{items_of}

abbrev items_in : Option (List OdeItem) → List OdeItem
items_in (Some items) = items
items_in None = []

pub with_items : (op : Op) (items : List OdeItem) → items_of op ≡ Some items → op ≡ Op'.System items
with_items (Op'.System own) items e = ap (λ o. Op'.System (items_in o)) e
with_items _ items e = cc

pub without_items : (op : Op) → items_of op ≡ None → is_system op ≡ false
without_items (Op'.System own) e = cc
without_items _ e = refl
