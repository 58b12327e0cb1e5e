-- Static semantics: which variables are free, bound and must-bound in a tree (Platzer 2017, section on static semantics).
use Rattle.std.specs.Prelude.{ℕ, List, [], ◌∷◌, Bool, true, false, ◌&&◌, ◌||◌, not, Option, Some, None}
use Rattle.std.specs.List.{list_any}
use Rattle.std.specs.Str.{bytes_eq}
use Rattle.dlk_tree.specs.Tests.{var_eq}
use Rattle.dlk_tree.specs.Trees.{Tree, node, Forest, no_kids, kid}
use Rattle.dlk_tree.specs.declared.op.Var.{Var}
use Rattle.dlk_tree.specs.declared.op.OdeItem.{OdeItem}
use Rattle.dlk_tree.specs.declared.op.OdeItem.TheVariants as Item
use Rattle.dlk_tree.specs.declared.op.Op.{Op}
use Rattle.dlk_tree.specs.declared.op.Op.TheVariants as Op'

-- A set of variables is a test.
abbrev pub none : Var → Bool
none v = false

abbrev pub all : Var → Bool
all v = true

-- the variable w alone
abbrev pub just : Var → Var → Bool
just w v = var_eq v w

-- the variable x, without a prime
abbrev pub plain : List ℕ → Var
plain x = record { name = x; primed = false }

-- the variable x'
abbrev pub prime : List ℕ → Var
prime x = record { name = x; primed = true }

-- x and x'
abbrev pub with_prime : List ℕ → Var → Bool
with_prime x v = bytes_eq v.name x

-- what a symbol may read or write: all variables, with a taboo y all but y and y'
abbrev pub all_but : Option (List ℕ) → Var → Bool
all_but None v = true
all_but (Some y) v = not (with_prime y v)

abbrev pub either : (Var → Bool) → (Var → Bool) → Var → Bool
either one other v = one v || other v

abbrev pub both : (Var → Bool) → (Var → Bool) → Var → Bool
both one other v = one v && other v

abbrev pub without : (Var → Bool) → (Var → Bool) → Var → Bool
without one other v = one v && not (other v)

-- a set, and x' for each unprimed x in it
abbrev pub and_primes : (Var → Bool) → Var → Bool
and_primes set v = set v || (v.primed && set (plain v.name))

-- the three sets of a tree
pub record Sets : Type 0 where
  pub free : Var → Bool
  pub bound : Var → Bool
  pub must : Var → Bool

abbrev pub sets_are : (Var → Bool) → (Var → Bool) → (Var → Bool) → Sets
sets_are free bound must = record { free = free; bound = bound; must = must }

-- Of the sets of an operator's kids:

-- what is free in some kid
abbrev pub free_in_kids : List Sets → Var → Bool
free_in_kids kids v = list_any (λ k. k.free v) kids

-- what is bound in some kid
abbrev pub bound_in_kids : List Sets → Var → Bool
bound_in_kids kids v = list_any (λ k. k.bound v) kids

-- where the second of two kids comes after the first: what is free in the first, and what is free in the second and not
-- must-bound in the first
abbrev pub free_in_turn : List Sets → Var → Bool
free_in_turn [] v = false
free_in_turn (first ∷ []) v = false
free_in_turn (first ∷ second ∷ rest) v = either first.free (without second.free first.must) v

-- what both of two kids must-bind
abbrev pub must_in_both : List Sets → Var → Bool
must_in_both [] v = false
must_in_both (first ∷ []) v = false
must_in_both (first ∷ second ∷ rest) v = both first.must second.must v

-- what one of two kids must-binds
abbrev pub must_in_one : List Sets → Var → Bool
must_in_one [] v = false
must_in_one (first ∷ []) v = false
must_in_one (first ∷ second ∷ rest) v = either first.must second.must v

-- Of the items of a system:

abbrev pub free_in_item : OdeItem → Var → Bool
free_in_item (Item.Evolve x) = just (plain x)
free_in_item (Item.Const s) = all_but s.taboo

abbrev pub bound_in_item : OdeItem → Var → Bool
bound_in_item (Item.Evolve x) = with_prime x
bound_in_item (Item.Const s) = all_but s.taboo

abbrev pub must_in_item : OdeItem → Var → Bool
must_in_item (Item.Evolve x) = with_prime x
must_in_item (Item.Const s) = none

abbrev pub free_in_items : List OdeItem → Var → Bool
free_in_items items v = list_any (λ item. free_in_item item v) items

abbrev pub bound_in_items : List OdeItem → Var → Bool
bound_in_items items v = list_any (λ item. bound_in_item item v) items

abbrev pub must_in_items : List OdeItem → Var → Bool
must_in_items items v = list_any (λ item. must_in_item item v) items

-- an operator that reads and binds what its kids do, and must-binds nothing
abbrev pub as_kids : List Sets → Sets
as_kids kids = sets_are (free_in_kids kids) (bound_in_kids kids) none

-- the table of the static semantics: of each operator over kids with these sets, what is free, bound and must-bound
abbrev pub statics : Op → List Sets → Sets
statics (Op'.Variable v) kids = sets_are (just v) none none
statics (Op'.Number n) kids = sets_are none none none
statics (Op'.Dot n) kids = sets_are none none none
statics (Op'.UnitFun s) kids = sets_are (all_but s.taboo) none none
statics (Op'.Apply s) kids = as_kids kids
statics Op'.Neg kids = as_kids kids
statics Op'.Diff kids = sets_are (and_primes (free_in_kids kids)) (bound_in_kids kids) none
statics Op'.Add kids = as_kids kids
statics Op'.Sub kids = as_kids kids
statics Op'.Mul kids = as_kids kids
statics Op'.Div kids = as_kids kids
statics Op'.Pow kids = as_kids kids
statics Op'.True kids = sets_are none none none
statics Op'.False kids = sets_are none none none
statics Op'.Hole kids = sets_are all all none
statics (Op'.UnitPred s) kids = sets_are (all_but s.taboo) none none
statics (Op'.Holds s) kids = as_kids kids
statics Op'.Eq kids = as_kids kids
statics Op'.Ne kids = as_kids kids
statics Op'.Ge kids = as_kids kids
statics Op'.Gt kids = as_kids kids
statics Op'.Le kids = as_kids kids
statics Op'.Lt kids = as_kids kids
statics (Op'.Predicational s) kids = sets_are all all none
statics Op'.Not kids = as_kids kids
statics Op'.DiffF kids = sets_are (and_primes (free_in_kids kids)) (bound_in_kids kids) none
statics (Op'.Forall x) kids = sets_are (without (free_in_kids kids) (just (plain x))) (either (bound_in_kids kids) (just (plain x))) none
statics (Op'.Exists x) kids = sets_are (without (free_in_kids kids) (just (plain x))) (either (bound_in_kids kids) (just (plain x))) none
statics Op'.And kids = as_kids kids
statics Op'.Or kids = as_kids kids
statics Op'.Imply kids = as_kids kids
statics Op'.Equiv kids = as_kids kids
statics Op'.Box kids = sets_are (free_in_turn kids) (bound_in_kids kids) none
statics Op'.Dia kids = sets_are (free_in_turn kids) (bound_in_kids kids) none
statics (Op'.Const s) kids = sets_are all all none
statics (Op'.Assign v) kids = sets_are (free_in_kids kids) (just v) (just v)
statics (Op'.Any x) kids = sets_are none (just (plain x)) (just (plain x))
statics Op'.Test kids = sets_are (free_in_kids kids) none none
statics (Op'.System items) kids = sets_are (either (free_in_items items) (free_in_kids kids)) (bound_in_items items) (must_in_items items)
statics Op'.Choice kids = sets_are (free_in_kids kids) (bound_in_kids kids) (must_in_both kids)
statics Op'.Seq kids = sets_are (free_in_turn kids) (bound_in_kids kids) (must_in_one kids)
statics Op'.Loop kids = as_kids kids

-- the three sets of a tree, and of each tree of a list
abbrev mutual
  pub sets : Tree → Sets
  sets (node op kids) = statics op (sets_all kids)

  pub sets_all : Forest → List Sets
  sets_all no_kids = []
  sets_all (kid t rest) = sets t ∷ sets_all rest

abbrev pub free : Tree → Var → Bool
free t = (sets t).free

abbrev pub bound : Tree → Var → Bool
bound t = (sets t).bound

abbrev pub must : Tree → Var → Bool
must t = (sets t).must
