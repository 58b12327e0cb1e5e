-- Plugging, filling and substitution leave no argument dot and no `_`.
use Rattle.std.proofs.Common.{ℕ, ◌==◌, ◌≡◌, refl, ap, ◌∙◌, List, [], ◌∷◌, false, Option, None, Some}
use Rattle.std.specs.Prelude.{All, IsTrue}
use Rattle.std.specs.List.{list_all}
use Rattle.std.proofs.lemmas.Bool.{or_parts, or_from, and_parts, cond_both, eqb-true}
use Rattle.dlk_tree.specs.declared.op.Sym.{Sym}
use Rattle.dlk_tree.specs.declared.op.Kind.{Kind}
use Rattle.dlk_tree.specs.declared.op.Kind.TheVariants.{Func, UnitFunc, Pred, UnitPred, Quant, Prog, Ode}
use Rattle.dlk_tree.specs.declared.op.OdeItem.{OdeItem}
use Rattle.dlk_tree.specs.declared.op.OdeItem.TheVariants as Item
use Rattle.dlk_tree.specs.declared.op.Op.{Op}
use Rattle.dlk_tree.specs.declared.op.Op.TheVariants as Op'
use Rattle.dlk_tree.specs.Table.{kind_row, is_sym_of, is_item, has_parts}
use Rattle.dlk_tree.specs.Trees.{Tree, node, Forest, no_kids, kid, trees_in, WellMade, AllWellMade}
use Rattle.dlk_tree.specs.Statics.{all}
use Rattle.dlk_tree.specs.Occurs.{has, any_has, is_some_dot, is_hole, has_dots, has_hole}
use Rattle.dlk_calculus.specs.Kids.{first, later, last}
use Rattle.dlk_calculus.specs.Captures.{Stays}
use Rattle.dlk_calculus.specs.Plug.{PlugAt, Plug, PlugAll, filled, filled_all}
use Rattle.dlk_calculus.specs.Pairs.{Pair, replacement, IsWellFormed}
use Rattle.dlk_calculus.specs.Sequents.{IsFormula}
use Rattle.dlk_calculus.specs.Subst.{IsAdmissible, Replaced, Member, Equation, Constant, members, new_members, items_of, kids_of, SubstAt, Subst, SubstAll}
use Rattle.dlk_calculus.proofs.Sorts.{argument_has, subst_sort}
use Rattle.dlk_calculus.proofs.Lacks.{trees_lack}
use Rattle.dlk_calculus.proofs.Systems.{Each, Any, each_spliced, each_for}
use Rattle.dlk_calculus.proofs.Clean.{TakesNone, is_gap, IsClean, AreClean, clean, clean-no_dot, clean-no_hole, replacement_no_hole, replacement_no_dot}
use Rattle.dlk_calculus.proofs.Clean.{replacement_clean}

-- an operator that stays
stays_clean : (op : Op) (new : Forest) (t : Tree) → is_gap op ≡ false → AreClean new → t ≡ node op new → IsClean t
stays_clean op new t h clean e = ap (has is_gap) e ∙ or_from _ _ h clean

-- ---- plugging

module _ (args : List Tree) (args_clean : All IsClean args) where
  plug_at_clean : (op : Op) (old new : Forest) (t : Tree) → is_hole op ≡ false → AreClean new → PlugAt args op old new t → IsClean t
  plug_at_clean (Op'.Dot n) old new t h clean p = argument_has IsClean args n t args_clean p
  plug_at_clean op old new t h clean p = stays_clean op new t h clean p.1

  mutual
    pub plug_clean : (r t : Tree) → has_hole r ≡ false → Plug args r t → IsClean t
    plug_clean (node op kids) t h p =
        let none = or_parts _ _ h in
        plug_at_clean op kids p.0 t none.0 (plug_all_clean kids p.0 none.1 p.1) p.2

    plug_all_clean : (rs ts : Forest) → any_has is_hole rs ≡ false → PlugAll args rs ts → AreClean ts
    plug_all_clean no_kids no_kids h p = refl
    plug_all_clean no_kids (kid t ts) h p = absurd p
    plug_all_clean (kid r rs) no_kids h p = absurd p
    plug_all_clean (kid r rs) (kid t ts) h p =
        let none = or_parts _ _ h in
        or_from _ _ (plug_clean r t none.0 p.0) (plug_all_clean rs ts none.1 p.1)

-- ---- filling

module _ (f : Tree) (f_clean : IsClean f) where
  mutual
    pub fill_clean : (r : Tree) → has_dots r ≡ false → IsClean (filled f r)
    fill_clean (node op kids) h =
        let none = or_parts _ _ h in
        cond_both (is_hole op) f (node op (filled_all f kids)) IsClean (λ e. f_clean) (λ e. or_from _ _ (or_from _ _ none.0 e) (fill_all_clean kids none.1))

    fill_all_clean : (rs : Forest) → any_has is_some_dot rs ≡ false → AreClean (filled_all f rs)
    fill_all_clean no_kids h = refl
    fill_all_clean (kid r rs) h =
        let none = or_parts _ _ h in
        or_from _ _ (fill_clean r none.0) (fill_all_clean rs none.1)

-- ---- substitution

zero_only : (n : ℕ) → IsTrue (n == 0) → n ≡ 0
zero_only n = eqb-true n 0

first_clean : (kids : Forest) → AreClean kids → IsClean (first kids)
first_clean no_kids h = refl
first_clean (kid t rest) h = (or_parts _ _ h).0

last_clean : (kids : Forest) → AreClean kids → IsClean (last kids)
last_clean no_kids h = refl
last_clean (kid t no_kids) h = (or_parts _ _ h).0
last_clean (kid t (kid u rest)) h = last_clean (kid u rest) (or_parts _ _ h).1

members_clean : (items : List OdeItem) (kids : Forest) → AreClean kids → Each IsClean Any (members items kids)
members_clean [] kids clean = tt
members_clean (Item.Evolve x ∷ items) no_kids clean = (refl, members_clean items no_kids clean)
members_clean (Item.Evolve x ∷ items) (kid t ts) clean = let both = or_parts _ _ clean in (both.0, members_clean items ts both.1)
members_clean (Item.Const s ∷ items) kids clean = (tt, members_clean items kids clean)

-- and each constant is of its kind
abbrev IsOde : Sym → Type 0
IsOde s = IsTrue (is_sym_of Ode s)

each_ode : (items : List OdeItem) (kids : Forest) → IsTrue (list_all is_item items)
    → Each IsClean Any (members items kids) → Each IsClean IsOde (members items kids)
each_ode [] kids are all = tt
each_ode (Item.Evolve x ∷ items) kids are all = (all.0, each_ode items (later kids) (and_parts _ _ are).1 all.1)
each_ode (Item.Const s ∷ items) kids are all = let both = and_parts _ _ are in (both.0, each_ode items kids both.1 all.1)

kids_clean : (ms : List Member) (domain : Tree) → Each IsClean Any ms → IsClean domain → AreClean (kids_of ms domain)
kids_clean [] domain all clean = or_from _ _ clean refl
kids_clean (Equation x side ∷ ms) domain all clean = or_from _ _ all.0 (kids_clean ms domain all.1 clean)
kids_clean (Constant s ∷ ms) domain all clean = kids_clean ms domain all.1 clean

module _ (pairs : List Pair) (well : IsWellFormed pairs) where
  new_kids_clean : (items : List OdeItem) (new : Forest) → IsTrue (list_all is_item items) → AreClean new
      → AreClean (kids_of (new_members pairs items new) (last new))
  new_kids_clean items new are clean =
      let for = λ (s : Sym) (is : IsOde s).
      each_for IsClean s (replacement pairs s)
      (λ others kids found. members_clean others kids (replacement_clean pairs well Ode s _ is found zero_only refl)) in
      let each = each_spliced IsClean IsOde pairs for (members items new) (each_ode items new are (members_clean items new clean)) in
      kids_clean (new_members pairs items new) (last new) each (last_clean new clean)

  -- a replacement or the operator itself
  replaced_clean : (o : Option Tree) (op : Op) (old new : Forest) (t : Tree) (With : Tree → Type 0) → ((r : Tree) → o ≡ Some r → With r → IsClean t)
      → is_gap op ≡ false → AreClean new → Replaced o With (Stays (IsAdmissible pairs) op old new t) → IsClean t
  replaced_clean (Some r) op old new t With h gap clean p = h r refl p
  replaced_clean None op old new t With h gap clean p = stays_clean op new t gap clean p.1

  given_clean : (k : Kind) (s : Sym) (op : Op) (old new : Forest) (t : Tree) → TakesNone k → (kind_row k).hole ≡ false → IsTrue (is_sym_of k s)
      → is_gap op ≡ false → AreClean new → Replaced (replacement pairs s) (λ r. t ≡ r) (Stays (IsAdmissible pairs) op old new t) → IsClean t
  given_clean k s op old new t none h is gap clean p =
      replaced_clean (replacement pairs s) op old new t (λ r. t ≡ r)
      (λ r found e. ap (has is_gap) e ∙ replacement_clean pairs well k s r is found none h) gap clean p

  plugged_clean : (k : Kind) (s : Sym) (op : Op) (old new : Forest) (t : Tree) → (kind_row k).hole ≡ false → IsTrue (is_sym_of k s)
      → is_gap op ≡ false → AreClean new → Replaced (replacement pairs s) (λ r. Plug (trees_in new) r t) (Stays (IsAdmissible pairs) op old new t) → IsClean t
  plugged_clean k s op old new t h is gap clean p =
      replaced_clean (replacement pairs s) op old new t (λ r. Plug (trees_in new) r t)
      (λ r found q. plug_clean (trees_in new) (trees_lack is_gap new clean) r t (replacement_no_hole pairs well k s r is found h) q) gap clean p

  filled_clean : (s : Sym) (op : Op) (old new : Forest) (t : Tree) → IsTrue (is_sym_of Quant s) → is_gap op ≡ false → AreClean new
      → Replaced (replacement pairs s) (λ r. IsAdmissible pairs all old × (t ≡ filled (first new) r)) (Stays (IsAdmissible pairs) op old new t) → IsClean t
  filled_clean s op old new t is gap clean p =
      replaced_clean (replacement pairs s) op old new t (λ r. IsAdmissible pairs all old × (t ≡ filled (first new) r))
      (λ r found q. ap (has is_gap) q.1
      ∙ fill_clean (first new) (first_clean new clean) r (replacement_no_dot pairs well Quant s r is found zero_only)) gap clean p

  -- an operator's result over new kids
  subst_at_clean : (op : Op) (old new : Forest) (t : Tree) → IsTrue (has_parts op) → is_gap op ≡ false → AreClean new → SubstAt pairs op old new t → IsClean t
  subst_at_clean (Op'.UnitFun s) old new t parts gap clean p = given_clean UnitFunc s (Op'.UnitFun s) old new t zero_only refl parts gap clean p
  subst_at_clean (Op'.UnitPred s) old new t parts gap clean p = given_clean UnitPred s (Op'.UnitPred s) old new t zero_only refl parts gap clean p
  subst_at_clean (Op'.Const s) old new t parts gap clean p = given_clean Prog s (Op'.Const s) old new t zero_only refl parts gap clean p
  subst_at_clean (Op'.Apply s) old new t parts gap clean p = plugged_clean Func s (Op'.Apply s) old new t refl parts gap clean p
  subst_at_clean (Op'.Holds s) old new t parts gap clean p = plugged_clean Pred s (Op'.Holds s) old new t refl parts gap clean p
  subst_at_clean (Op'.Predicational s) old new t parts gap clean p = filled_clean s (Op'.Predicational s) old new t parts gap clean p
  subst_at_clean (Op'.System items) old new t parts gap clean p =
      let good = and_parts _ _ parts in
      stays_clean (Op'.System (items_of (new_members pairs items new))) (kids_of (new_members pairs items new) (last new)) t refl
      (new_kids_clean items new (and_parts _ _ good.0).1 clean) p.1
  subst_at_clean op old new t parts gap clean p = stays_clean op new t gap clean p.1

  mutual
    pub subst_clean : (e t : Tree) → WellMade e → IsClean e → Subst pairs e t → IsClean t
    subst_clean (node op kids) t made clean p =
        let none = or_parts _ _ clean in
        subst_at_clean op kids p.0 t made.0.parts_fit none.0 (subst_all_clean kids p.0 made.1 none.1 p.1) p.2

    subst_all_clean : (es ts : Forest) → AllWellMade es → AreClean es → SubstAll pairs es ts → AreClean ts
    subst_all_clean no_kids no_kids made clean p = refl
    subst_all_clean no_kids (kid t ts) made clean p = absurd p
    subst_all_clean (kid e es) no_kids made clean p = absurd p
    subst_all_clean (kid e es) (kid t ts) made clean p =
        let none = or_parts _ _ clean in
        or_from _ _ (subst_clean e t made.0 none.0 p.0) (subst_all_clean es ts made.1 none.1 p.1)

  result_made : (e t : Tree) → Subst pairs e t → WellMade t
  result_made (node op kids) t p = p.3

  pub subst_formula : (e t : Tree) → IsFormula e → Subst pairs e t → IsFormula t
  subst_formula e t formula p =
      let none = subst_clean e t formula.well_made (clean e formula.no_dot formula.no_hole) p in
      record {
        well_made = result_made e t p;
        sort_is = subst_sort pairs well e t formula.well_made p ∙ formula.sort_is;
        no_dot = clean-no_dot t none;
        no_hole = clean-no_hole t none;
      }
