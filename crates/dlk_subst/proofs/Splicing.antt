-- Items and kids of a system, put together.
use Rattle.std.proofs.Common.{◌≡◌, refl, sym, ap, subst, ◌∙◌, ℕ, zero, suc, ◌-◌, replicate, List, [], ◌∷◌, ◌++◌, length, take, drop, ◌≤◌, Some}
use Rattle.std.proofs.Common.{append_assoc, ◌+◌, ◌<◌, get_or, drop-cons, add-one}
use Rattle.std.proofs.Common.{arith, Result, Ok, Err}
use Rattle.std.specs.Prelude.{All, OnOk}
use Rattle.std.proofs.lemmas.List.{at_drop_all}
use Rattle.std.proofs.lemmas.List.Elements.{All-nil, All-append, All-take, All-cons}
use Rattle.dlk_tree.specs.declared.op.Sym.{Sym}
use Rattle.dlk_tree.specs.declared.op.OdeItem.{OdeItem}
use Rattle.dlk_tree.specs.declared.op.OdeItem.TheVariants as Item
use Rattle.dlk_tree.specs.declared.op.Op.{Op}
use Rattle.dlk_tree.specs.declared.op.Op.TheVariants as Op'
use Rattle.dlk_tree.specs.declared.op.Sort.TheVariants.{Term, Formula}
use Rattle.dlk_tree.specs.Table.{evolved, kid_sorts}
use Rattle.dlk_tree.specs.Trees.{Tree, node, Forest, no_kids, kid, sorts, WellMade}
use Rattle.dlk_store.specs.declared.Id.{Id}
use Rattle.dlk_store.specs.Stores.{IsId, tree, kid_trees}
use Rattle.dlk_calculus.specs.Kids.{last}
use Rattle.dlk_calculus.specs.Pairs.{Pair, replacement}
use Rattle.dlk_calculus.specs.Subst.{Member, Equation, Constant, members, members_for, new_members, items_of, kids_of}
use Rattle.dlk_calculus.proofs.Sorts.{tail}
use Rattle.dlk_subst.specs.Splices.{append, Puts, PutsItem, AreKidsOf, whole_items, whole_kids}
use Rattle.dlk_subst.specs.declared.splice.Spliced.{Spliced}

trees_append : (trees : List Tree) (xs ys : List Id) → kid_trees trees (xs ++ ys) ≡ append (kid_trees trees xs) (kid_trees trees ys)
trees_append trees [] ys = refl
trees_append trees (x ∷ xs) ys = ap (kid (tree trees x)) (trees_append trees xs ys)

append-assoc : (a b c : Forest) → append (append a b) c ≡ append a (append b c)
append-assoc no_kids b c = refl
append-assoc (kid t rest) b c = ap (kid t) (append-assoc rest b c)

items_append : (ms ns : List Member) → items_of (ms ++ ns) ≡ items_of ms ++ items_of ns
items_append [] ns = refl
items_append (Equation x side ∷ ms) ns = ap (λ items. Item.Evolve x ∷ items) (items_append ms ns)
items_append (Constant s ∷ ms) ns = ap (λ items. Item.Const s ∷ items) (items_append ms ns)

pub items_members : (items : List OdeItem) (kids : Forest) → items_of (members items kids) ≡ items
items_members [] kids = refl
items_members (Item.Evolve x ∷ items) no_kids = ap (λ more. Item.Evolve x ∷ more) (items_members items no_kids)
items_members (Item.Evolve x ∷ items) (kid t ts) = ap (λ more. Item.Evolve x ∷ more) (items_members items ts)
items_members (Item.Const s ∷ items) kids = ap (λ more. Item.Const s ∷ more) (items_members items kids)

-- a system has a domain
pub some_kid : (n : ℕ) → [] ≡ replicate n Term ++ Formula ∷ [] → ⊥
some_kid zero e = cc
some_kid (suc n) e = cc

-- the kids before the last are the right sides
front_kids : (trees : List Tree) (items : List OdeItem) (ids : List Id) (more : List Member) (domain : Tree) → AreKidsOf trees items ids
    → append (kid_trees trees (take (length ids - 1) ids)) (kids_of more domain) ≡ kids_of (members items (kid_trees trees ids) ++ more) domain
front_kids trees [] [] more domain e = refl
front_kids trees [] (id ∷ []) more domain e = refl
front_kids trees [] (id ∷ j ∷ ids) more domain e = let f : sorts (kid_trees trees (j ∷ ids)) ≡ [] = ap tail e in cc
front_kids trees (Item.Evolve x ∷ items) [] more domain e = cc
front_kids trees (Item.Evolve x ∷ items) (id ∷ []) more domain e = absurd (some_kid (length (evolved items)) (ap tail e))
front_kids trees (Item.Evolve x ∷ items) (id ∷ j ∷ ids) more domain e =
    let one : length (id ∷ j ∷ ids) - 1 ≡ suc (length (j ∷ ids) - 1) = omega arith in
    rw one (ap (kid (tree trees id)) (front_kids trees items (j ∷ ids) more domain (ap tail e)))
front_kids trees (Item.Const s ∷ items) ids more domain e = front_kids trees items ids more domain e

-- a constant stays
pub symbol_put : {E : Type 0} (trees : List Tree) (s : Sym) (old new : Spliced) (result : Result (Unit {0}) E)
    → OnOk result (new.items.items ≡ old.items.items ++ Item.Const s ∷ []) → OnOk result (new.kids.items ≡ old.kids.items)
    → OnOk result (Puts trees (Constant s ∷ []) old new)
symbol_put trees s old new (Err e) i k = tt
symbol_put trees s old new (Ok r) i k = record {
  items_are = i;
  kids_are = λ more domain. ap (λ ks. append (kid_trees trees ks) (kids_of more domain)) k;
  known = λ all. subst (All (IsId trees)) (sym k) all;
}

-- a well-made replacement that is a system has a system's kids
pub replacement_fits : (trees : List Tree) (by : Id) (op : Op) (items : List OdeItem) (ids : List Id)
    → All WellMade trees → IsId trees by → tree trees by ≡ node op (kid_trees trees ids) → op ≡ Op'.System items → AreKidsOf trees items ids
replacement_fits trees by op items ids made known is op_is =
    (subst WellMade (is ∙ ap (λ o. node o (kid_trees trees ids)) op_is) (made by.0 (node Op'.True no_kids) known)).0.kids_fit

-- a system gives its items, and its kids without the domain
pub system_put : {E : Type 0} (trees : List Tree) (t : Tree) (s : Sym) (op : Op) (items : List OdeItem) (ids : List Id) (old new : Spliced)
    (result : Result (Unit {0}) E) → t ≡ node op (kid_trees trees ids) → op ≡ Op'.System items → AreKidsOf trees items ids → All (IsId trees) ids
    → OnOk result (new.items.items ≡ old.items.items ++ items) → OnOk result (new.kids.items ≡ old.kids.items ++ take (length ids - 1) ids)
    → OnOk result (Puts trees (members_for s (Some t)) old new)
system_put trees t s op items ids old new (Err e) is op_is fits known i k = tt
system_put trees t s op items ids old new (Ok r) is op_is fits known i k =
    let front = take (length ids - 1) ids in
    let put : Puts trees (members items (kid_trees trees ids)) old new = record {
      items_are = i ∙ ap (λ l. old.items.items ++ l) (sym (items_members items (kid_trees trees ids)));
      kids_are = λ more domain.
          ap (λ ks. append (kid_trees trees ks) (kids_of more domain)) k
          ∙ ap (λ f. append f (kids_of more domain)) (trees_append trees old.kids.items front)
          ∙ append-assoc (kid_trees trees old.kids.items) (kid_trees trees front) (kids_of more domain)
          ∙ ap (append (kid_trees trees old.kids.items)) (front_kids trees items ids more domain fits);
      known = λ all.
          let fronts = All-take (IsId trees) (length ids - 1) ids known in
          subst (All (IsId trees)) (sym k) (All-append (IsId trees) old.kids.items front all fronts);
    } in
    subst (λ u. Puts trees (members_for s (Some u)) old new) (sym (is ∙ ap (λ o. node o (kid_trees trees ids)) op_is)) put

-- a replacement that is no system gives nothing, and the constant stays
other_members : (s : Sym) (op : Op) (kids : Forest) → ((items : List OdeItem) → op ≡ Op'.System items → ⊥)
    → members_for s (Some (node op kids)) ≡ Constant s ∷ []
other_members s (Op'.System items) kids other = absurd (other items refl)
other_members s _ kids other = refl

pub other_put : {E : Type 0} (trees : List Tree) (t : Tree) (s : Sym) (op : Op) (kids : Forest) (old new : Spliced)
    (result : Result (Unit {0}) E) → t ≡ node op kids → ((items : List OdeItem) → op ≡ Op'.System items → ⊥)
    → OnOk result (Puts trees (Constant s ∷ []) old new) → OnOk result (Puts trees (members_for s (Some t)) old new)
other_put trees t s op kids old new result is other put =
    let same = other_members s op kids other in
    subst (λ u. OnOk result (Puts trees (members_for s (Some u)) old new)) (sym is) (subst (λ ms. OnOk result (Puts trees ms old new)) (sym same) put)

-- ---- an item

pub constant_put : (trees : List Tree) (pairs : List Pair) (s : Sym) (kids : List Id) (old new : Spliced)
    → Puts trees (members_for s (replacement pairs s)) old new → PutsItem trees pairs (Item.Const s) kids old new kids
constant_put trees pairs s kids old new put =
    let ms = members_for s (replacement pairs s) in
    let more = λ (later : List OdeItem). new_members pairs later (kid_trees trees kids) in
    record {
      items_are = λ later e.
          ap (λ l. l ++ items_of (more later)) put.items_are
          ∙ append_assoc old.items.items (items_of ms) (items_of (more later))
          ∙ ap (λ l. old.items.items ++ l) (sym (items_append ms (more later)));
      kids_are = λ later e. put.kids_are (more later) (last (kid_trees trees kids));
      left_are = λ later e. e;
      known = λ all. put.known;
      left_known = λ all. all;
    }

-- the last kid is behind the first, where there are more
last_behind : (trees : List Tree) (t : Tree) (n : ℕ) (ids : List Id) → sorts (kid_trees trees ids) ≡ replicate n Term ++ Formula ∷ []
    → last (kid t (kid_trees trees ids)) ≡ last (kid_trees trees ids)
last_behind trees t n [] e = absurd (some_kid n e)
last_behind trees t n (id ∷ ids) e = refl

-- an evolved variable with its right side
pub evolved_put : (trees : List Tree) (pairs : List Pair) (x : List ℕ) (side : Id) (kids later : List Id) (old new : Spliced)
    → kids ≡ side ∷ later → new.items.items ≡ old.items.items ++ Item.Evolve x ∷ [] → new.kids.items ≡ old.kids.items ++ side ∷ []
    → PutsItem trees pairs (Item.Evolve x) kids old new later
evolved_put trees pairs x side kids later old new is i k =
    let more = λ (items : List OdeItem). new_members pairs items (kid_trees trees later) in
    let domain = last (kid_trees trees later) in
    let behind = λ (items : List OdeItem) (e : AreKidsOf trees (Item.Evolve x ∷ items) (side ∷ later)).
    last_behind trees (tree trees side) (length (evolved items)) later (ap tail e) in
    subst (λ ks. PutsItem trees pairs (Item.Evolve x) ks old new later) (sym is) (record {
      items_are = λ items e. ap (λ l. l ++ items_of (more items)) i ∙ append_assoc old.items.items (Item.Evolve x ∷ []) (items_of (more items));
      kids_are = λ items e.
          ap (λ ks. append (kid_trees trees ks) (kids_of (more items) domain)) k
          ∙ ap (λ f. append f (kids_of (more items) domain)) (trees_append trees old.kids.items (side ∷ []))
          ∙ append-assoc (kid_trees trees old.kids.items) (kid (tree trees side) no_kids) (kids_of (more items) domain)
          ∙ ap (λ d. append (kid_trees trees old.kids.items) (kid (tree trees side) (kids_of (more items) d))) (sym (behind items e));
      left_are = λ items e. ap tail e;
      known = λ all more.
          let one = All-cons (IsId trees) side [] (all 0 side (omega arith)) (All-nil (IsId trees)) in
          subst (All (IsId trees)) (sym k) (All-append (IsId trees) old.kids.items (side ∷ []) more one);
      left_known = λ all. λ n d h. all (suc n) d (omega arith);
    })

-- ---- the whole

-- the one kid that is left is the domain
domain_left : (trees : List Tree) (left : List Id) → AreKidsOf trees [] left → kid (last (kid_trees trees left)) no_kids ≡ kid_trees trees left
domain_left trees [] e = cc
domain_left trees (id ∷ []) e = refl
domain_left trees (id ∷ j ∷ ids) e = let f : sorts (kid_trees trees (j ∷ ids)) ≡ [] = ap tail e in cc

-- where no item is left, it comes last
pub whole_put : (trees : List Tree) (pairs : List Pair) (items : List OdeItem) (n : ℕ) (put : Spliced) (left all : List Id) (kids : Forest)
    → length items ≤ n → all ≡ put.kids.items ++ left
    → AreKidsOf trees (drop n items) left → whole_kids trees pairs put (drop n items) left ≡ kids → kid_trees trees all ≡ kids
whole_put trees pairs items n put left all kids past e fits h =
    let none = at_drop_all (λ (more : List OdeItem). whole_kids trees pairs put more left) items n past in
    let domain : AreKidsOf trees [] left = fits ∙ at_drop_all (λ (more : List OdeItem). kid_sorts (Op'.System more)) items n past in
    ap (kid_trees trees) e ∙ trees_append trees put.kids.items left
    ∙ ap (append (kid_trees trees put.kids.items)) (sym (domain_left trees left domain)) ∙ sym none ∙ h

dropped : (l : List OdeItem) (k : ℕ) (i : OdeItem) → k < length l → drop k l ≡ get_or l k i ∷ drop (k + 1) l
dropped l k i below = rw (drop-cons l k i, add-one) refl

-- one more item was put
module _ (trees : List Tree) (pairs : List Pair) (items : List OdeItem) (n : ℕ) (item : OdeItem) (is : item ≡ get_or items n item) (h : n < length items)
    {old new : Spliced} {kids left : List Id} (put : PutsItem trees pairs item kids old new left) (fits : AreKidsOf trees (drop n items) kids) where
  abbrev rest : List OdeItem
  rest = drop (n + 1) items

  first : drop n items ≡ item ∷ rest
  first = dropped items n item h ∙ ap (λ i. i ∷ rest) (sym is)

  pub next_fits : AreKidsOf trees rest left
  next_fits = put.left_are rest (subst (λ l. AreKidsOf trees l kids) first fits)

  pub next_items : whole_items trees pairs new rest left ≡ whole_items trees pairs old (drop n items) kids
  next_items = put.items_are rest (subst (λ l. AreKidsOf trees l kids) first fits) ∙ ap (λ l. whole_items trees pairs old l kids) (sym first)

  pub next_kids : whole_kids trees pairs new rest left ≡ whole_kids trees pairs old (drop n items) kids
  next_kids = put.kids_are rest (subst (λ l. AreKidsOf trees l kids) first fits) ∙ ap (λ l. whole_kids trees pairs old l kids) (sym first)
