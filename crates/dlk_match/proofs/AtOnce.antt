-- Each name of an axiom becomes, by names exchanged in turn, the one that it gets: as if all were exchanged at once.
use Rattle.std.proofs.Common.{◌≡◌, refl, sym, ap, subst, ◌∙◌, ℕ, List, [], ◌∷◌, map, Bool, true, false, cond, not, ◌||◌, ◌&&◌, Option, Some}
use Rattle.std.proofs.Common.{None, is_none}
use Rattle.std.specs.Prelude.{All, IsTrue, option_map}
use Rattle.std.specs.List.{list_any}
use Rattle.std.specs.Str.{bytes_eq}
use Rattle.std.proofs.lemmas.Bool.{or_parts, and_parts}
use Rattle.std.proofs.lemmas.Slice.Eq.{bytes_eq-Decides}
use Rattle.std.proofs.lemmas.List.Elements.{All-head, All-tail}
use Rattle.dlk_tree.specs.declared.op.Var.{Var}
use Rattle.dlk_tree.specs.declared.op.Sym.{Sym}
use Rattle.dlk_tree.specs.declared.op.Kind.{Kind}
use Rattle.dlk_tree.specs.declared.op.OdeItem.{OdeItem}
use Rattle.dlk_tree.specs.declared.op.OdeItem.TheVariants as Item
use Rattle.dlk_tree.specs.declared.op.Op.TheVariants as Op'
use Rattle.dlk_tree.specs.Table.{kind_row, is_sym_of}
use Rattle.dlk_tree.specs.Trees.{node, no_kids}
use Rattle.dlk_tree.specs.Named.{any_taboo, any_item_name}
use Rattle.dlk_calculus.specs.Rename.{swap_name, swap_var, swap_sym, swap_item, swap_op}
use Rattle.dlk_calculus.proofs.Sorts.{kind_of_rank}
use Rattle.dlk_match.specs.Matching.{is_own, old_names, new_names, AreGiven, AreApart, renamed_to, renamed_taboo, renamed_symbol, exchanged}
use Rattle.dlk_match.proofs.Turns.{Names, in_turn, unchanged, carried, carried_both, exchanged_node, exchanged_none}

-- a name that is no old one and no new one stays
settled : (renames : Names) (z : List ℕ) → list_any (bytes_eq z) (old_names renames) ≡ false → list_any (bytes_eq z) (new_names renames) ≡ false →
    in_turn swap_name renames z ≡ z
settled [] z old new = refl
settled (r ∷ renames) z old new =
    let a = or_parts _ _ old in
    let b = or_parts _ _ new in
    ap (in_turn swap_name renames) (go (bytes_eq r.0 r.1) (bytes_eq z r.0) (bytes_eq z r.1) a.0 b.0) ∙ settled renames z a.1 b.1
  where
    go : (t a b : Bool) → a ≡ false → b ≡ false → cond t z (cond a r.1 (cond b r.0 z)) ≡ z
    go true a b p q = refl
    go false false false p q = refl
    go false true b p q = cc
    go false false true p q = cc

not_true : (b : Bool) → (b ≡ true → ⊥) → b ≡ false
not_true true h = absurd (h refl)
not_true false h = refl

-- a name among the old ones is own
own_old : (own : List (List ℕ)) (renames : Names) (z : List ℕ) → All (λ (r : List ℕ × List ℕ). IsTrue (is_own own r.0)) renames →
    list_any (bytes_eq z) (old_names renames) ≡ true → IsTrue (is_own own z)
own_old own [] z all e = cc
own_old own (r ∷ renames) z all e =
    go (λ h. own_old own renames z (All-tail (λ (q : List ℕ × List ℕ). IsTrue (is_own own q.0)) r renames all) h) (bytes_eq z r.0) refl e
  where
    go : (list_any (bytes_eq z) (old_names renames) ≡ true → IsTrue (is_own own z)) → (b : Bool) → bytes_eq z r.0 ≡ b →
        b || list_any (bytes_eq z) (old_names renames) ≡ true → IsTrue (is_own own z)
    go rest true same h =
        subst (λ w. IsTrue (is_own own w)) (sym ((bytes_eq-Decides z r.0).0 same)) (All-head (λ (q : List ℕ × List ℕ). IsTrue (is_own own q.0)) r renames all)
    go rest false same h = rest h

not_among : (b : Bool) (bs : Bool) → IsTrue (cond (not b) bs false) → b ≡ false
not_among true bs h = cc
not_among false bs h = refl

not_both : (b c : Bool) → b ≡ true → IsTrue (not b && c) → ⊥
not_both true c e h = cc
not_both false c e h = cc

given_rest : (own : List (List ℕ)) (r : List ℕ × List ℕ) (renames : Names) → AreGiven own (r ∷ renames) → AreGiven own renames
given_rest own r renames h = record {
  own_ones = All-tail (λ (q : List ℕ × List ℕ). IsTrue (is_own own q.0)) r renames h.own_ones;
  once = (and_parts _ _ h.once).1;
}

apart_rest : (own : List (List ℕ)) (r : List ℕ × List ℕ) (renames : Names) → AreApart own (r ∷ renames) → AreApart own renames
apart_rest own r renames h = record {
  unlike = (and_parts _ _ h.unlike).1;
  not_onto_own = All-tail (λ (q : List ℕ × List ℕ). IsTrue (is_own own q.1) → q.1 ≡ q.0) r renames h.not_onto_own;
}

module _ (own : List (List ℕ)) (r : List ℕ × List ℕ) (renames : Names) (given : AreGiven own (r ∷ renames)) (apart : AreApart own (r ∷ renames)) where
  new_is_old : IsTrue (is_own own r.1) → r.1 ≡ r.0
  new_is_old = All-head (λ (q : List ℕ × List ℕ). IsTrue (is_own own q.1) → q.1 ≡ q.0) r renames apart.not_onto_own

  -- what the first name becomes is left alone
  new_settled : in_turn swap_name renames r.1 ≡ r.1
  new_settled =
      settled renames r.1
      (not_true _ (λ e.
      let is = own_old own renames r.1 (All-tail (λ (q : List ℕ × List ℕ). IsTrue (is_own own q.0)) r renames given.own_ones) e in
      not_both (list_any (bytes_eq r.0) (old_names renames)) _ (subst (λ w. list_any (bytes_eq w) (old_names renames) ≡ true) (new_is_old is) e) given.once))
      (not_true _ (λ e. not_both (list_any (bytes_eq r.1) (new_names renames)) _ e apart.unlike))

  -- the first name becomes its new one
  first_becomes : cond (bytes_eq r.0 r.1) r.0 (swap_name r.0 r.1 r.0) ≡ r.1
  first_becomes = go (bytes_eq r.0 r.1) refl (bytes_eq r.0 r.0) ((bytes_eq-Decides r.0 r.0).1 refl)
    where
      go : (t : Bool) → bytes_eq r.0 r.1 ≡ t → (b : Bool) → b ≡ true → cond t r.0 (cond b r.1 (cond t r.0 r.0)) ≡ r.1
      go true e b q = (bytes_eq-Decides r.0 r.1).0 e
      go false e true q = refl
      go false e false q = cc

  -- any other own name stays
  other_stays : (z : List ℕ) → IsTrue (is_own own z) → bytes_eq z r.0 ≡ false → cond (bytes_eq r.0 r.1) z (swap_name r.0 r.1 z) ≡ z
  other_stays z is unlike = go (bytes_eq r.0 r.1) (bytes_eq z r.0) (bytes_eq z r.1) unlike
      (not_true _ (λ e.
      let same = (bytes_eq-Decides z r.1).0 e in
      let old = same ∙ new_is_old (subst (λ w. IsTrue (is_own own w)) same is) in
      let h = (bytes_eq-Decides z r.0).1 old in
      cc))
    where
      go : (t a b : Bool) → a ≡ false → b ≡ false → cond t z (cond a r.1 (cond b r.0 z)) ≡ z
      go true a b p q = refl
      go false false false p q = refl
      go false true b p q = cc
      go false false true p q = cc

abbrev taboo_of : List ℕ → Option (List ℕ) → List ℕ
taboo_of y None = y
taboo_of y (Some z) = z

taboo_is : (renames : Names) (y : List ℕ) → renamed_taboo renames y ≡ taboo_of y (renamed_to renames y)
taboo_is renames y = go (renamed_to renames y) refl
  where
    go : (o : Option (List ℕ)) → renamed_to renames y ≡ o → renamed_taboo renames y ≡ taboo_of y o
    go None e = rw e refl
    go (Some z) e = rw e refl

pub taboo_named : (renames : Names) (x y : List ℕ) → renamed_to renames x ≡ Some y → renamed_taboo renames x ≡ y
taboo_named renames x y e = taboo_is renames x ∙ ap (taboo_of x) e

-- each own name becomes the one that it gets
pub name_at_once : (own : List (List ℕ)) (renames : Names) (z : List ℕ) → AreGiven own renames → AreApart own renames → IsTrue (is_own own z) →
    in_turn swap_name renames z ≡ renamed_taboo renames z
name_at_once own [] z given apart is = refl
name_at_once own (r ∷ renames) z given apart is =
    go (bytes_eq z r.0) refl (name_at_once own renames z (given_rest own r renames given) (apart_rest own r renames apart) is ∙ taboo_is renames z)
    ∙ sym (taboo_is (r ∷ renames) z)
  where
    go : (b : Bool) → bytes_eq z r.0 ≡ b → in_turn swap_name renames z ≡ taboo_of z (renamed_to renames z) →
        in_turn swap_name renames (cond (bytes_eq r.0 r.1) z (swap_name r.0 r.1 z)) ≡ taboo_of z (cond b (Some r.1) (renamed_to renames z))
    go true e rest =
        let same = (bytes_eq-Decides z r.0).0 e in
        ap (λ w. in_turn swap_name renames (cond (bytes_eq r.0 r.1) w (swap_name r.0 r.1 w))) same
        ∙ ap (in_turn swap_name renames) (first_becomes own r renames given apart) ∙ new_settled own r renames given apart
    go false e rest = ap (in_turn swap_name renames) (other_stays own r renames given apart z is e) ∙ rest

-- ---- what holds names

abbrev pub IsOwnTaboo : List (List ℕ) → Option (List ℕ) → Type 0
IsOwnTaboo own taboo = any_taboo (λ x. not (is_own own x)) taboo ≡ false

pub not_not : (b : Bool) → not b ≡ false → IsTrue b
not_not true e = refl
not_not false e = cc

-- the item with the names that its names get
abbrev pub renamed_item : Names → OdeItem → OdeItem
renamed_item renames (Item.Evolve x) = Item.Evolve (renamed_taboo renames x)
renamed_item renames (Item.Const s) = Item.Const (renamed_symbol renames s)

module _ (own : List (List ℕ)) (renames : Names) (given : AreGiven own renames) (apart : AreApart own renames) where
  variable_at_once : (v : Var) → IsTrue (is_own own v.name) → in_turn swap_var renames v ≡ record { name = renamed_taboo renames v.name; primed = v.primed }
  variable_at_once v is =
      carried (λ (x : List ℕ). record { name = x; primed = v.primed }) swap_name swap_var (λ x y z. refl) renames v.name
      ∙ ap (λ x. record { name = x; primed = v.primed }) (name_at_once own renames v.name given apart is)

  pub leaf_at_once : (v : Var) → IsTrue (is_own own v.name) →
      exchanged renames (node (Op'.Variable v) no_kids) ≡ node (Op'.Variable (record { name = renamed_taboo renames v.name; primed = v.primed })) no_kids
  leaf_at_once v is =
      let op = carried Op'.Variable swap_var swap_op (λ x y w. refl) renames v ∙ ap Op'.Variable (variable_at_once v is) in
      let none = exchanged_none renames in
      exchanged_node renames (Op'.Variable v) no_kids ∙ (λ i. node (op i) (none i))

  taboo_at_once : (o : Option (List ℕ)) → IsOwnTaboo own o → in_turn (λ x y. option_map (swap_name x y)) renames o ≡ option_map (renamed_taboo renames) o
  taboo_at_once None is = unchanged (λ x y. option_map (swap_name x y)) None (λ x y. refl) renames
  taboo_at_once (Some z) is =
      carried Some swap_name (λ x y. option_map (swap_name x y)) (λ x y w. refl) renames z ∙ ap Some (name_at_once own renames z given apart (not_not _ is))

  pub symbol_at_once : (s : Sym) → IsOwnTaboo own s.taboo → in_turn swap_sym renames s ≡ renamed_symbol renames s
  symbol_at_once s is =
      carried (λ (o : Option (List ℕ)). record { kind = s.kind; name = s.name; arity = s.arity; taboo = o }) (λ x y. option_map (swap_name x y)) swap_sym
      (λ x y o. refl) renames s.taboo
      ∙ ap (λ o. record { kind = s.kind; name = s.name; arity = s.arity; taboo = o }) (taboo_at_once s.taboo is)

  item_at_once : (item : OdeItem) → any_item_name (λ x. not (is_own own x)) item ≡ false → in_turn swap_item renames item ≡ renamed_item renames item
  item_at_once (Item.Evolve z) is =
      carried Item.Evolve swap_name swap_item (λ x y w. refl) renames z ∙ ap Item.Evolve (name_at_once own renames z given apart (not_not _ is))
  item_at_once (Item.Const s) is = carried Item.Const swap_sym swap_item (λ x y w. refl) renames s ∙ ap Item.Const (symbol_at_once s is)

  pub items_at_once : (items : List OdeItem) → list_any (any_item_name (λ x. not (is_own own x))) items ≡ false →
      in_turn (λ x y. map (swap_item x y)) renames items ≡ map (renamed_item renames) items
  items_at_once [] is = unchanged (λ x y. map (swap_item x y)) [] (λ x y. refl) renames
  items_at_once (item ∷ items) is =
      let parts = or_parts _ _ is in
      let a = item_at_once item parts.0 in
      let b = items_at_once items parts.1 in
      carried_both ◌∷◌ swap_item (λ x y. map (swap_item x y)) (λ x y. map (swap_item x y)) (λ x y i l. refl) renames item items ∙ (λ i. a i ∷ b i)

-- ---- symbols of kinds without a taboo

no_taboo : (k : Kind) (s : Sym) → (kind_row k).taboo ≡ false → IsTrue (is_sym_of k s) → s.taboo ≡ None
no_taboo k s none is =
    let parts = and_parts _ _ is in
    let kind = kind_of_rank s.kind k parts.0 in
    let last = (and_parts _ _ parts.1).1 in
    go s.taboo (kind_row s.kind).taboo (ap (λ l. (kind_row l).taboo) kind ∙ none) last
  where
    go : (o : Option (List ℕ)) (b : Bool) → b ≡ false → IsTrue (is_none o || b) → o ≡ None
    go None b e h = refl
    go (Some y) b e h = cc

pub no_own_taboo : (own : List (List ℕ)) (k : Kind) (s : Sym) → (kind_row k).taboo ≡ false → IsTrue (is_sym_of k s) → IsOwnTaboo own s.taboo
no_own_taboo own k s none is = ap (any_taboo (λ x. not (is_own own x))) (no_taboo k s none is)
