-- What a substitution does at an operator.
use Rattle.std.specs.Prelude.{◌≡◌, List, Option, Some, None}
use Rattle.dlk_tree.specs.declared.op.OdeItem.{OdeItem}
use Rattle.dlk_tree.specs.declared.op.Op.{Op}
use Rattle.dlk_tree.specs.declared.op.Op.TheVariants as Op'
use Rattle.dlk_sequent.specs.declared.subst.Pair.{Pair}
use Rattle.dlk_subst.specs.Scopes.{captures_of}
use Rattle.dlk_subst.specs.Effects.{effect_of}
use Rattle.dlk_memo.specs.declared.substituting.Task.{Task}

-- the items of a system
abbrev pub items_of : Op → Option (List OdeItem)
items_of (Op'.System items) = Some items
items_of _ = None

-- the task is the one at this operator
pub record IsTaskAt (pairs : List Pair) (op : Op) (task : Task) : Type 0 where
  pub items : task.items ≡ items_of op
  pub effect : task.effect ≡ effect_of pairs op
  pub captures : task.captures ≡ captures_of op
