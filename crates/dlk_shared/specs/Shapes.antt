-- The table of the static semantics in two parts: what an operator brings of its own, and how that and its kids' sets are put together.
use Rattle.std.specs.Prelude.{◌≡◌, Bool, List}
use Rattle.std.specs.List.{list_any}
use Rattle.std.proofs.Common.{refl}
use Rattle.dlk_tree.specs.Statics.{none, all, just, plain, all_but, either, without, and_primes, Sets, sets_are, as_kids, free_in_kids, bound_in_kids}
use Rattle.dlk_tree.specs.Statics.{free_in_turn, must_in_both, must_in_one, free_in_item, bound_in_item, must_in_item, free_in_items, bound_in_items}
use Rattle.dlk_tree.specs.Statics.{must_in_items, statics}
use Rattle.dlk_tree.specs.declared.op.Op.{Op}
use Rattle.dlk_tree.specs.declared.op.Op.TheVariants as Op'
use Rattle.dlk_tree.specs.declared.op.OdeItem.{OdeItem}
use Rattle.dlk_tree.specs.declared.op.Var.{Var}
use Rattle.dlk_store.specs.declared.listing.Which.{Which}
use Rattle.dlk_store.specs.declared.listing.Which.TheVariants.{Free, Bound, Must}
use Rattle.dlk_shared.specs.declared.shape.StaticsShape.{StaticsShape}
use Rattle.dlk_shared.specs.declared.shape.StaticsShape.TheVariants.{Own, AsKids, Differential, Quantified, Modal, Assigned, Tested, Evolved, Branching}
use Rattle.dlk_shared.specs.declared.shape.StaticsShape.TheVariants.{Sequence}

-- what an item of a system reads, binds or must-binds
abbrev pub in_item : Which → OdeItem → Var → Bool
in_item Free = free_in_item
in_item Bound = bound_in_item
in_item Must = must_in_item

abbrev pub in_items : Which → List OdeItem → Var → Bool
in_items which items v = list_any (λ item. in_item which item v) items

-- what an operator reads, binds and must-binds by itself
abbrev pub own_sets : Op → Sets
own_sets (Op'.Variable v) = sets_are (just v) none none
own_sets (Op'.Number n) = sets_are none none none
own_sets (Op'.Dot n) = sets_are none none none
own_sets (Op'.UnitFun s) = sets_are (all_but s.taboo) none none
own_sets (Op'.Apply s) = sets_are none none none
own_sets Op'.Neg = sets_are none none none
own_sets Op'.Diff = sets_are none none none
own_sets Op'.Add = sets_are none none none
own_sets Op'.Sub = sets_are none none none
own_sets Op'.Mul = sets_are none none none
own_sets Op'.Div = sets_are none none none
own_sets Op'.Pow = sets_are none none none
own_sets Op'.True = sets_are none none none
own_sets Op'.False = sets_are none none none
own_sets Op'.Hole = sets_are all all none
own_sets (Op'.UnitPred s) = sets_are (all_but s.taboo) none none
own_sets (Op'.Holds s) = sets_are none none none
own_sets Op'.Eq = sets_are none none none
own_sets Op'.Ne = sets_are none none none
own_sets Op'.Ge = sets_are none none none
own_sets Op'.Gt = sets_are none none none
own_sets Op'.Le = sets_are none none none
own_sets Op'.Lt = sets_are none none none
own_sets (Op'.Predicational s) = sets_are all all none
own_sets Op'.Not = sets_are none none none
own_sets Op'.DiffF = sets_are none none none
own_sets (Op'.Forall x) = sets_are none (just (plain x)) none
own_sets (Op'.Exists x) = sets_are none (just (plain x)) none
own_sets Op'.And = sets_are none none none
own_sets Op'.Or = sets_are none none none
own_sets Op'.Imply = sets_are none none none
own_sets Op'.Equiv = sets_are none none none
own_sets Op'.Box = sets_are none none none
own_sets Op'.Dia = sets_are none none none
own_sets (Op'.Const s) = sets_are all all none
own_sets (Op'.Assign v) = sets_are none (just v) (just v)
own_sets (Op'.Any x) = sets_are none (just (plain x)) (just (plain x))
own_sets Op'.Test = sets_are none none none
own_sets (Op'.System items) = sets_are (free_in_items items) (bound_in_items items) (must_in_items items)
own_sets Op'.Choice = sets_are none none none
own_sets Op'.Seq = sets_are none none none
own_sets Op'.Loop = sets_are none none none

-- how an operator puts its kids' sets together
abbrev pub shape_of : Op → StaticsShape
shape_of (Op'.Variable v) = Own
shape_of (Op'.Number n) = Own
shape_of (Op'.Dot n) = Own
shape_of (Op'.UnitFun s) = Own
shape_of (Op'.Apply s) = AsKids
shape_of Op'.Neg = AsKids
shape_of Op'.Diff = Differential
shape_of Op'.Add = AsKids
shape_of Op'.Sub = AsKids
shape_of Op'.Mul = AsKids
shape_of Op'.Div = AsKids
shape_of Op'.Pow = AsKids
shape_of Op'.True = Own
shape_of Op'.False = Own
shape_of Op'.Hole = Own
shape_of (Op'.UnitPred s) = Own
shape_of (Op'.Holds s) = AsKids
shape_of Op'.Eq = AsKids
shape_of Op'.Ne = AsKids
shape_of Op'.Ge = AsKids
shape_of Op'.Gt = AsKids
shape_of Op'.Le = AsKids
shape_of Op'.Lt = AsKids
shape_of (Op'.Predicational s) = Own
shape_of Op'.Not = AsKids
shape_of Op'.DiffF = Differential
shape_of (Op'.Forall x) = Quantified
shape_of (Op'.Exists x) = Quantified
shape_of Op'.And = AsKids
shape_of Op'.Or = AsKids
shape_of Op'.Imply = AsKids
shape_of Op'.Equiv = AsKids
shape_of Op'.Box = Modal
shape_of Op'.Dia = Modal
shape_of (Op'.Const s) = Own
shape_of (Op'.Assign v) = Assigned
shape_of (Op'.Any x) = Own
shape_of Op'.Test = Tested
shape_of (Op'.System items) = Evolved
shape_of Op'.Choice = Branching
shape_of Op'.Seq = Sequence
shape_of Op'.Loop = AsKids

-- the sets of a node, of those that its operator brings and those of its kids
abbrev pub put_together : StaticsShape → Sets → List Sets → Sets
put_together Own own kids = own
put_together AsKids own kids = as_kids kids
put_together Differential own kids = sets_are (and_primes (free_in_kids kids)) (bound_in_kids kids) none
put_together Quantified own kids = sets_are (without (free_in_kids kids) own.bound) (either (bound_in_kids kids) own.bound) none
put_together Modal own kids = sets_are (free_in_turn kids) (bound_in_kids kids) none
put_together Assigned own kids = sets_are (free_in_kids kids) own.bound own.must
put_together Tested own kids = sets_are (free_in_kids kids) none none
put_together Evolved own kids = sets_are (either own.free (free_in_kids kids)) own.bound own.must
put_together Branching own kids = sets_are (free_in_kids kids) (bound_in_kids kids) (must_in_both kids)
put_together Sequence own kids = sets_are (free_in_turn kids) (bound_in_kids kids) (must_in_one kids)

-- that is the table of the static semantics
pub statics_together : (op : Op) (kids : List Sets) → statics op kids ≡ put_together (shape_of op) (own_sets op) kids
statics_together (Op'.Variable v) kids = refl
statics_together (Op'.Number n) kids = refl
statics_together (Op'.Dot n) kids = refl
statics_together (Op'.UnitFun s) kids = refl
statics_together (Op'.Apply s) kids = refl
statics_together Op'.Neg kids = refl
statics_together Op'.Diff kids = refl
statics_together Op'.Add kids = refl
statics_together Op'.Sub kids = refl
statics_together Op'.Mul kids = refl
statics_together Op'.Div kids = refl
statics_together Op'.Pow kids = refl
statics_together Op'.True kids = refl
statics_together Op'.False kids = refl
statics_together Op'.Hole kids = refl
statics_together (Op'.UnitPred s) kids = refl
statics_together (Op'.Holds s) kids = refl
statics_together Op'.Eq kids = refl
statics_together Op'.Ne kids = refl
statics_together Op'.Ge kids = refl
statics_together Op'.Gt kids = refl
statics_together Op'.Le kids = refl
statics_together Op'.Lt kids = refl
statics_together (Op'.Predicational s) kids = refl
statics_together Op'.Not kids = refl
statics_together Op'.DiffF kids = refl
statics_together (Op'.Forall x) kids = refl
statics_together (Op'.Exists x) kids = refl
statics_together Op'.And kids = refl
statics_together Op'.Or kids = refl
statics_together Op'.Imply kids = refl
statics_together Op'.Equiv kids = refl
statics_together Op'.Box kids = refl
statics_together Op'.Dia kids = refl
statics_together (Op'.Const s) kids = refl
statics_together (Op'.Assign v) kids = refl
statics_together (Op'.Any x) kids = refl
statics_together Op'.Test kids = refl
statics_together (Op'.System items) kids = refl
statics_together Op'.Choice kids = refl
statics_together Op'.Seq kids = refl
statics_together Op'.Loop kids = refl
