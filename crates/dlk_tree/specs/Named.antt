-- The names of variables in a tree: a variable that isn't named is free, bound or must-bound as any other that isn't.
use Rattle.std.specs.Prelude.{ℕ, List, [], Bool, false, ◌||◌, Option, Some, None}
use Rattle.std.specs.List.{list_any}
use Rattle.std.specs.Str.{bytes_eq}
use Rattle.dlk_tree.specs.Occurs.{has}
use Rattle.dlk_tree.specs.Statics.{plain, prime}
use Rattle.dlk_tree.specs.Trees.{Tree}
use Rattle.dlk_tree.specs.declared.op.Var.{Var}
use Rattle.dlk_tree.specs.declared.op.OdeItem.{OdeItem}
use Rattle.dlk_tree.specs.declared.op.OdeItem.TheVariants as Item
use Rattle.dlk_tree.specs.declared.op.Op.{Op}
use Rattle.dlk_tree.specs.declared.op.Op.TheVariants as Op'

abbrev pub any_taboo : (List ℕ → Bool) → Option (List ℕ) → Bool
any_taboo test None = false
any_taboo test (Some y) = test y

abbrev pub any_item_name : (List ℕ → Bool) → OdeItem → Bool
any_item_name test (Item.Evolve x) = test x
any_item_name test (Item.Const s) = any_taboo test s.taboo

-- the test holds of a name in the operator
abbrev pub any_name : (List ℕ → Bool) → Op → Bool
any_name test (Op'.Variable v) = test v.name
any_name test (Op'.UnitFun s) = any_taboo test s.taboo
any_name test (Op'.UnitPred s) = any_taboo test s.taboo
any_name test (Op'.Forall x) = test x
any_name test (Op'.Exists x) = test x
any_name test (Op'.Assign v) = test v.name
any_name test (Op'.Any x) = test x
any_name test (Op'.System items) = list_any (any_item_name test) items
any_name test _ = false

abbrev pub is_named : List ℕ → Tree → Bool
is_named x t = has (any_name (bytes_eq x)) t

-- x or x' is in the set
abbrev pub has_either : (Var → Bool) → List ℕ → Bool
has_either set x = set (plain x) || set (prime x)

-- a variable that no well-made tree names, since its name isn't one
abbrev pub nowhere : Var
nowhere = plain []
