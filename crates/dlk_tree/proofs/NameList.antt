-- The names of variables in a tree, as a list.
use Rattle.std.proofs.Common.{◌≡◌, ◌∙◌, sym, refl, ℕ, List, [], ◌∷◌, ◌++◌, Bool, true, ◌||◌, Option, Some, None}
use Rattle.std.proofs.Math.Bool.{or-false}
use Rattle.std.proofs.lemmas.Bool.{and_from, and_parts}
use Rattle.std.proofs.lemmas.List.Folds.{list_any-append, list_all-append}
use Rattle.std.specs.List.{list_any, list_all}
use Rattle.dlk_tree.specs.Names.{is_name}
use Rattle.dlk_tree.specs.Table.{has_parts, is_sym_of, is_item, taboo_is_name}
use Rattle.dlk_tree.specs.Trees.{Tree, node, Forest, no_kids, kid, WellMade, AllWellMade}
use Rattle.dlk_tree.specs.Occurs.{has, any_has}
use Rattle.dlk_tree.specs.Named.{any_taboo, any_item_name, any_name}
use Rattle.dlk_tree.specs.declared.op.Sym.{Sym}
use Rattle.dlk_tree.specs.declared.op.Kind.{Kind}
use Rattle.dlk_tree.specs.declared.op.Kind.TheVariants.{UnitFunc, UnitPred, Ode}
use Rattle.dlk_tree.specs.declared.op.OdeItem.{OdeItem}
use Rattle.dlk_tree.specs.declared.op.OdeItem.TheVariants as Item
use Rattle.dlk_tree.specs.declared.op.Op.{Op}
use Rattle.dlk_tree.specs.declared.op.Op.TheVariants as Op'

abbrev taboo_names : Option (List ℕ) → List (List ℕ)
taboo_names None = []
taboo_names (Some y) = y ∷ []

abbrev item_names : OdeItem → List (List ℕ)
item_names (Item.Evolve x) = x ∷ []
item_names (Item.Const s) = taboo_names s.taboo

abbrev items_names : List OdeItem → List (List ℕ)
items_names [] = []
items_names (item ∷ items) = item_names item ++ items_names items

abbrev op_names : Op → List (List ℕ)
op_names (Op'.Variable v) = v.name ∷ []
op_names (Op'.UnitFun s) = taboo_names s.taboo
op_names (Op'.UnitPred s) = taboo_names s.taboo
op_names (Op'.Forall x) = x ∷ []
op_names (Op'.Exists x) = x ∷ []
op_names (Op'.Assign v) = v.name ∷ []
op_names (Op'.Any x) = x ∷ []
op_names (Op'.System items) = items_names items
op_names _ = []

abbrev mutual
  pub names : Tree → List (List ℕ)
  names (node op kids) = op_names op ++ names_in kids

  names_in : Forest → List (List ℕ)
  names_in no_kids = []
  names_in (kid t rest) = names t ++ names_in rest

-- a test holds of a name in the tree where it holds of a name in the list
module _ (test : List ℕ → Bool) where
  either_list : (a b : Bool) (xs ys : List (List ℕ)) → a ≡ list_any test xs → b ≡ list_any test ys → (a || b) ≡ list_any test (xs ++ ys)
  either_list a b xs ys p q = (λ i. p i || q i) ∙ sym (list_any-append test xs ys)

  one_listed : (x : List ℕ) → test x ≡ list_any test (x ∷ [])
  one_listed x = sym (or-false (test x))

  taboo_listed : (taboo : Option (List ℕ)) → any_taboo test taboo ≡ list_any test (taboo_names taboo)
  taboo_listed None = refl
  taboo_listed (Some y) = one_listed y

  item_listed : (item : OdeItem) → any_item_name test item ≡ list_any test (item_names item)
  item_listed (Item.Evolve x) = one_listed x
  item_listed (Item.Const s) = taboo_listed s.taboo

  items_listed : (items : List OdeItem) → list_any (any_item_name test) items ≡ list_any test (items_names items)
  items_listed [] = refl
  items_listed (item ∷ items) = either_list _ _ (item_names item) (items_names items) (item_listed item) (items_listed items)

  op_listed : (op : Op) → any_name test op ≡ list_any test (op_names op)
  op_listed (Op'.Variable v) = one_listed v.name
  op_listed (Op'.UnitFun s) = taboo_listed s.taboo
  op_listed (Op'.UnitPred s) = taboo_listed s.taboo
  op_listed (Op'.Forall x) = one_listed x
  op_listed (Op'.Exists x) = one_listed x
  op_listed (Op'.Assign v) = one_listed v.name
  op_listed (Op'.Any x) = one_listed x
  op_listed (Op'.System items) = items_listed items
  op_listed _ = refl

  mutual
    pub names_listed : (t : Tree) → has (any_name test) t ≡ list_any test (names t)
    names_listed (node op kids) = either_list _ _ (op_names op) (names_in kids) (op_listed op) (names_in_listed kids)

    names_in_listed : (ts : Forest) → any_has (any_name test) ts ≡ list_any test (names_in ts)
    names_in_listed no_kids = refl
    names_in_listed (kid t rest) = either_list _ _ (names t) (names_in rest) (names_listed t) (names_in_listed rest)

pub all_names : (xs ys : List (List ℕ)) → list_all is_name xs ≡ true → list_all is_name ys ≡ true → list_all is_name (xs ++ ys) ≡ true
all_names xs ys p q = list_all-append is_name xs ys ∙ and_from _ _ p q

one_real : (x : List ℕ) → is_name x ≡ true → list_all is_name (x ∷ []) ≡ true
one_real x h = and_from _ _ h refl

taboo_real : (taboo : Option (List ℕ)) → taboo_is_name taboo ≡ true → list_all is_name (taboo_names taboo) ≡ true
taboo_real None h = refl
taboo_real (Some y) h = one_real y h

sym_real : (kind : Kind) (s : Sym) → is_sym_of kind s ≡ true → list_all is_name (taboo_names s.taboo) ≡ true
sym_real kind s h =
    let p = and_parts _ _ h in
    let q = and_parts _ _ p.1 in
    taboo_real s.taboo (and_parts _ _ q.0).1

item_real : (item : OdeItem) → is_item item ≡ true → list_all is_name (item_names item) ≡ true
item_real (Item.Evolve x) h = one_real x h
item_real (Item.Const s) h = sym_real Ode s h

items_real : (items : List OdeItem) → list_all is_item items ≡ true → list_all is_name (items_names items) ≡ true
items_real [] h = refl
items_real (item ∷ items) h =
    let p = and_parts (is_item item) (list_all is_item items) h in
    all_names (item_names item) (items_names items) (item_real item p.0) (items_real items p.1)

op_real : (op : Op) → has_parts op ≡ true → list_all is_name (op_names op) ≡ true
op_real (Op'.Variable v) h = one_real v.name h
op_real (Op'.UnitFun s) h = sym_real UnitFunc s h
op_real (Op'.UnitPred s) h = sym_real UnitPred s h
op_real (Op'.Forall x) h = one_real x h
op_real (Op'.Exists x) h = one_real x h
op_real (Op'.Assign v) h = one_real v.name h
op_real (Op'.Any x) h = one_real x h
op_real (Op'.System items) h =
    let p = and_parts _ _ h in
    items_real items (and_parts _ _ p.0).1
op_real _ h = refl

-- the names in a well made tree are names
mutual
  pub names_real : (t : Tree) → WellMade t → list_all is_name (names t) ≡ true
  names_real (node op kids) h = all_names (op_names op) (names_in kids) (op_real op h.0.parts_fit) (names_in_real kids h.1)

  names_in_real : (ts : Forest) → AllWellMade ts → list_all is_name (names_in ts) ≡ true
  names_in_real no_kids h = refl
  names_in_real (kid t rest) h = all_names (names t) (names_in rest) (names_real t h.0) (names_in_real rest h.1)
