-- Variables that a tree doesn't name are all alike in it.
use Rattle.std.proofs.Common.{◌≡◌, ◌∙◌, sym, ap, refl, ℕ, List, [], ◌∷◌, Bool, true, false, ◌||◌, ◌&&◌, not, Option, Some, None}
use Rattle.std.proofs.lemmas.Bool.{or_parts}
use Rattle.std.specs.List.{list_any}
use Rattle.std.specs.Bool.{beq}
use Rattle.std.specs.Str.{bytes_eq}
use Rattle.dlk_tree.specs.Trees.{Tree, node, Forest, no_kids, kid}
use Rattle.dlk_tree.specs.Statics.{just, plain, with_prime, all_but, and_primes, Sets, free_in_kids, bound_in_kids, free_in_turn, must_in_both}
use Rattle.dlk_tree.specs.Statics.{must_in_one, free_in_item, bound_in_item, must_in_item, as_kids, statics, sets, sets_all}
use Rattle.dlk_tree.specs.Occurs.{any_has}
use Rattle.dlk_tree.specs.Named.{any_taboo, any_item_name, any_name, is_named}
use Rattle.dlk_tree.specs.declared.op.Var.{Var}
use Rattle.dlk_tree.specs.declared.op.OdeItem.{OdeItem}
use Rattle.dlk_tree.specs.declared.op.OdeItem.TheVariants as Item
use Rattle.dlk_tree.specs.declared.op.Op.{Op}
use Rattle.dlk_tree.specs.declared.op.Op.TheVariants as Op'

-- v and w are alike in the three sets
pub record Alike (s : Sets) (v w : Var) : Type 0 where
  pub free : s.free v ≡ s.free w
  pub bound : s.bound v ≡ s.bound w
  pub must : s.must v ≡ s.must w

abbrev pub AllAlike : List Sets → Var → Var → Type 0
AllAlike [] v w = Unit {0}
AllAlike (s ∷ ss) v w = Alike s v w × AllAlike ss v w

-- a variable of another name
just_out : (w v : Var) → bytes_eq v.name w.name ≡ false → just w v ≡ false
just_out w v h = ap (λ b. b && beq v.primed w.primed) h

all_but_in : (taboo : Option (List ℕ)) (v : Var) → any_taboo (bytes_eq v.name) taboo ≡ false → all_but taboo v ≡ true
all_but_in None v h = refl
all_but_in (Some y) v h = ap not h

-- a primed variable adds nothing where it is alike with the unprimed one
same_primes : (set : Var → Bool) (v : Var) → set v ≡ set (plain v.name) → and_primes set v ≡ set v
same_primes set v e = ap (λ b. set v || (v.primed && b)) (sym e) ∙ absorbed (set v) v.primed
  where
    absorbed : (a p : Bool) → (a || (p && a)) ≡ a
    absorbed true p = refl
    absorbed false true = refl
    absorbed false false = refl

module _ (v w : Var) where
  just_alike : (u : Var) → bytes_eq v.name u.name ≡ false → bytes_eq w.name u.name ≡ false → just u v ≡ just u w
  just_alike u hv hw = just_out u v hv ∙ sym (just_out u w hw)

  with_prime_alike : (x : List ℕ) → bytes_eq v.name x ≡ false → bytes_eq w.name x ≡ false → with_prime x v ≡ with_prime x w
  with_prime_alike x hv hw = hv ∙ sym hw

  all_but_alike : (taboo : Option (List ℕ)) → any_taboo (bytes_eq v.name) taboo ≡ false → any_taboo (bytes_eq w.name) taboo ≡ false →
      all_but taboo v ≡ all_but taboo w
  all_but_alike taboo hv hw = all_but_in taboo v hv ∙ sym (all_but_in taboo w hw)

  free_in_kids_alike : (kids : List Sets) → AllAlike kids v w → free_in_kids kids v ≡ free_in_kids kids w
  free_in_kids_alike [] h = refl
  free_in_kids_alike (s ∷ ss) h = λ i. h.0.free i || free_in_kids_alike ss h.1 i

  bound_in_kids_alike : (kids : List Sets) → AllAlike kids v w → bound_in_kids kids v ≡ bound_in_kids kids w
  bound_in_kids_alike [] h = refl
  bound_in_kids_alike (s ∷ ss) h = λ i. h.0.bound i || bound_in_kids_alike ss h.1 i

  as_kids_alike : (kids : List Sets) → AllAlike kids v w → Alike (as_kids kids) v w
  as_kids_alike kids h = record { free = free_in_kids_alike kids h; bound = bound_in_kids_alike kids h; must = refl }

  in_turn_alike : (kids : List Sets) → AllAlike kids v w → free_in_turn kids v ≡ free_in_turn kids w
  in_turn_alike [] h = refl
  in_turn_alike (first ∷ []) h = refl
  in_turn_alike (first ∷ second ∷ rest) h = λ i. h.0.free i || (h.1.0.free i && not (h.0.must i))

  in_both_alike : (kids : List Sets) → AllAlike kids v w → must_in_both kids v ≡ must_in_both kids w
  in_both_alike [] h = refl
  in_both_alike (first ∷ []) h = refl
  in_both_alike (first ∷ second ∷ rest) h = λ i. h.0.must i && h.1.0.must i

  in_one_alike : (kids : List Sets) → AllAlike kids v w → must_in_one kids v ≡ must_in_one kids w
  in_one_alike [] h = refl
  in_one_alike (first ∷ []) h = refl
  in_one_alike (first ∷ second ∷ rest) h = λ i. h.0.must i || h.1.0.must i

  -- what is alike in each item is alike in all
  items_alike : (set : OdeItem → Var → Bool) →
      ((item : OdeItem) → any_item_name (bytes_eq v.name) item ≡ false → any_item_name (bytes_eq w.name) item ≡ false → set item v ≡ set item w) →
      (items : List OdeItem) → list_any (any_item_name (bytes_eq v.name)) items ≡ false → list_any (any_item_name (bytes_eq w.name)) items ≡ false →
      list_any (λ item. set item v) items ≡ list_any (λ item. set item w) items
  items_alike set each [] hv hw = refl
  items_alike set each (item ∷ items) hv hw =
      let p = or_parts _ _ hv in
      let q = or_parts _ _ hw in
      λ i. each item p.0 q.0 i || items_alike set each items p.1 q.1 i

  free_in_item_alike : (item : OdeItem) → any_item_name (bytes_eq v.name) item ≡ false → any_item_name (bytes_eq w.name) item ≡ false →
      free_in_item item v ≡ free_in_item item w
  free_in_item_alike (Item.Evolve x) hv hw = just_alike (plain x) hv hw
  free_in_item_alike (Item.Const s) hv hw = all_but_alike s.taboo hv hw

  bound_in_item_alike : (item : OdeItem) → any_item_name (bytes_eq v.name) item ≡ false → any_item_name (bytes_eq w.name) item ≡ false →
      bound_in_item item v ≡ bound_in_item item w
  bound_in_item_alike (Item.Evolve x) hv hw = with_prime_alike x hv hw
  bound_in_item_alike (Item.Const s) hv hw = all_but_alike s.taboo hv hw

  must_in_item_alike : (item : OdeItem) → any_item_name (bytes_eq v.name) item ≡ false → any_item_name (bytes_eq w.name) item ≡ false →
      must_in_item item v ≡ must_in_item item w
  must_in_item_alike (Item.Evolve x) hv hw = with_prime_alike x hv hw
  must_in_item_alike (Item.Const s) hv hw = refl

  module _ (kids : List Sets) (h : AllAlike kids v w) (v_unprimed : free_in_kids kids v ≡ free_in_kids kids (plain v.name))
      (w_unprimed : free_in_kids kids w ≡ free_in_kids kids (plain w.name)) where
    and_primes_alike : and_primes (free_in_kids kids) v ≡ and_primes (free_in_kids kids) w
    and_primes_alike = same_primes (free_in_kids kids) v v_unprimed ∙ free_in_kids_alike kids h ∙ sym (same_primes (free_in_kids kids) w w_unprimed)

    statics_alike : (op : Op) → any_name (bytes_eq v.name) op ≡ false → any_name (bytes_eq w.name) op ≡ false → Alike (statics op kids) v w
    statics_alike (Op'.Variable u) hv hw = record { free = just_alike u hv hw; bound = refl; must = refl }
    statics_alike (Op'.Number n) hv hw = record { free = refl; bound = refl; must = refl }
    statics_alike (Op'.Dot n) hv hw = record { free = refl; bound = refl; must = refl }
    statics_alike (Op'.UnitFun s) hv hw = record { free = all_but_alike s.taboo hv hw; bound = refl; must = refl }
    statics_alike Op'.Diff hv hw = record { free = and_primes_alike; bound = bound_in_kids_alike kids h; must = refl }
    statics_alike Op'.True hv hw = record { free = refl; bound = refl; must = refl }
    statics_alike Op'.False hv hw = record { free = refl; bound = refl; must = refl }
    statics_alike Op'.Hole hv hw = record { free = refl; bound = refl; must = refl }
    statics_alike (Op'.UnitPred s) hv hw = record { free = all_but_alike s.taboo hv hw; bound = refl; must = refl }
    statics_alike (Op'.Predicational s) hv hw = record { free = refl; bound = refl; must = refl }
    statics_alike Op'.DiffF hv hw = record { free = and_primes_alike; bound = bound_in_kids_alike kids h; must = refl }
    statics_alike (Op'.Forall x) hv hw = record {
      free = λ i. free_in_kids_alike kids h i && not (just_alike (plain x) hv hw i);
      bound = λ i. bound_in_kids_alike kids h i || just_alike (plain x) hv hw i;
      must = refl;
    }
    statics_alike (Op'.Exists x) hv hw = record {
      free = λ i. free_in_kids_alike kids h i && not (just_alike (plain x) hv hw i);
      bound = λ i. bound_in_kids_alike kids h i || just_alike (plain x) hv hw i;
      must = refl;
    }
    statics_alike Op'.Box hv hw = record { free = in_turn_alike kids h; bound = bound_in_kids_alike kids h; must = refl }
    statics_alike Op'.Dia hv hw = record { free = in_turn_alike kids h; bound = bound_in_kids_alike kids h; must = refl }
    statics_alike (Op'.Const s) hv hw = record { free = refl; bound = refl; must = refl }
    statics_alike (Op'.Assign u) hv hw = record { free = free_in_kids_alike kids h; bound = just_alike u hv hw; must = just_alike u hv hw }
    statics_alike (Op'.Any x) hv hw = record { free = refl; bound = just_alike (plain x) hv hw; must = just_alike (plain x) hv hw }
    statics_alike Op'.Test hv hw = record { free = free_in_kids_alike kids h; bound = refl; must = refl }
    statics_alike (Op'.System items) hv hw = record {
      free = λ i. items_alike free_in_item free_in_item_alike items hv hw i || free_in_kids_alike kids h i;
      bound = items_alike bound_in_item bound_in_item_alike items hv hw;
      must = items_alike must_in_item must_in_item_alike items hv hw;
    }
    statics_alike Op'.Choice hv hw = record { free = free_in_kids_alike kids h; bound = bound_in_kids_alike kids h; must = in_both_alike kids h }
    statics_alike Op'.Seq hv hw = record { free = in_turn_alike kids h; bound = bound_in_kids_alike kids h; must = in_one_alike kids h }
    statics_alike _ hv hw = as_kids_alike kids h

mutual
  pub elsewhere : (t : Tree) (v w : Var) → is_named v.name t ≡ false → is_named w.name t ≡ false → Alike (sets t) v w
  elsewhere (node op kids) v w hv hw =
      let p = or_parts _ _ hv in
      let q = or_parts _ _ hw in
      let v_unprimed = free_in_kids_alike v (plain v.name) (sets_all kids) (elsewhere_all kids v (plain v.name) p.1 p.1) in
      let w_unprimed = free_in_kids_alike w (plain w.name) (sets_all kids) (elsewhere_all kids w (plain w.name) q.1 q.1) in
      statics_alike v w (sets_all kids) (elsewhere_all kids v w p.1 q.1) v_unprimed w_unprimed op p.0 q.0

  elsewhere_all : (ts : Forest) (v w : Var) → any_has (any_name (bytes_eq v.name)) ts ≡ false → any_has (any_name (bytes_eq w.name)) ts ≡ false →
      AllAlike (sets_all ts) v w
  elsewhere_all no_kids v w hv hw = tt
  elsewhere_all (kid t rest) v w hv hw =
      let p = or_parts _ _ hv in
      let q = or_parts _ _ hw in
      (elsewhere t v w p.0 q.0, elsewhere_all rest v w p.1 q.1)
