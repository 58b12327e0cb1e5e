-- Exchanging names keeps what fits, formulas and sequents.
use Rattle.std.proofs.Common.{◌≡◌, refl, sym, ap, subst, ◌∙◌, ℕ, ◌+◌, max, List, [], ◌∷◌, ◌++◌, map, length, replicate, Bool, true, false, ◌&&◌, ◌||◌, not}
use Rattle.std.proofs.Common.{◌==◌, cond, Option, None, Some}
use Rattle.std.specs.Prelude.{All, IsTrue, nat_le, is_none, option_map}
use Rattle.std.specs.List.{list_all, list_any}
use Rattle.std.specs.Str.{bytes_eq}
use Rattle.std.proofs.lemmas.Slice.Eq.{bytes_eq-Decides}
use Rattle.std.proofs.lemmas.List.{length-map}
use Rattle.std.proofs.lemmas.List.Elements.{All-head, All-tail, All-cons, All-nil}
use Rattle.std.proofs.lemmas.Bool.{and_parts}
use Rattle.dlk_tree.specs.declared.op.Sym.{Sym}
use Rattle.dlk_tree.specs.declared.op.Kind.{Kind}
use Rattle.dlk_tree.specs.declared.op.Kind.TheVariants.{Func, UnitFunc, Pred, UnitPred, Quant, Prog, Ode}
use Rattle.dlk_tree.specs.declared.op.Sort.{Sort}
use Rattle.dlk_tree.specs.declared.op.Sort.TheVariants.{Term, Formula}
use Rattle.dlk_tree.specs.declared.op.OdeItem.{OdeItem}
use Rattle.dlk_tree.specs.declared.op.OdeItem.TheVariants as Item
use Rattle.dlk_tree.specs.declared.op.Op.{Op}
use Rattle.dlk_tree.specs.declared.op.Op.TheVariants as Op'
use Rattle.dlk_tree.specs.Names.{is_name}
use Rattle.dlk_tree.specs.Tests.{kind_rank}
use Rattle.dlk_tree.specs.Table.{taboo_is_name, has_arity, kind_row, is_sym, is_sym_of, is_item, evolved, all_distinct, are_items, sort_of, kid_sorts}
use Rattle.dlk_tree.specs.Table.{has_parts, Fits}
use Rattle.dlk_tree.specs.Trees.{Tree, node, Forest, no_kids, kid, sort, sorts, size, size_all, depth, depth_all, WellMade, AllWellMade}
use Rattle.dlk_tree.specs.Occurs.{has, any_has, is_some_dot, is_hole}
use Rattle.dlk_calculus.specs.Sequents.{Sequent, IsFormula, IsSequent}
use Rattle.dlk_calculus.specs.Provables.{swap_sequent}
use Rattle.dlk_calculus.specs.Rename.{swap_name, swap_sym, swap_item, swap_op, swap, swap_all}

true_both : (a b : Bool) → a ≡ true → b ≡ true → a && b ≡ true
true_both true b p q = q
true_both false b p q = cc

module _ (x y : List ℕ) where
  -- a test of x, of y, and of any other name
  swap_cases : (P : List ℕ → Type 0) (z : List ℕ) → P x → P y → P z → P (swap_name x y z)
  swap_cases P z px py pz = go (bytes_eq z x) (bytes_eq z y)
    where
      inner : (b : Bool) → P (cond b x z)
      inner true = px
      inner false = pz

      go : (a b : Bool) → P (cond a y (cond b x z))
      go true b = py
      go false b = inner b

  -- exchanging twice changes nothing, so different names stay different
  swap_x : (z : List ℕ) → z ≡ x → swap_name x y z ≡ y
  swap_x z e = ap (λ b. cond b y (cond (bytes_eq z y) x z)) ((bytes_eq-Decides z x).1 e)

  swap_y : (z : List ℕ) → z ≡ y → swap_name x y z ≡ x
  swap_y z e = go (bytes_eq z x) (bytes_eq z y) refl ((bytes_eq-Decides z y).1 e)
    where
      go : (a b : Bool) → bytes_eq z x ≡ a → b ≡ true → cond a y (cond b x z) ≡ x
      go true b p q = sym e ∙ (bytes_eq-Decides z x).0 p
      go false true p q = refl
      go false false p q = cc

  swap_twice : (z : List ℕ) → swap_name x y (swap_name x y z) ≡ z
  swap_twice z = go (bytes_eq z x) refl (bytes_eq z y) refl
    where
      other : (a b : Bool) → a ≡ false → b ≡ false → cond a y (cond b x z) ≡ z
      other false false p q = refl
      other false true p q = cc
      other true b p q = cc

      go : (a : Bool) → bytes_eq z x ≡ a → (b : Bool) → bytes_eq z y ≡ b → swap_name x y (swap_name x y z) ≡ z
      go true p b q = let e = (bytes_eq-Decides z x).0 p in ap (swap_name x y) (swap_x z e) ∙ swap_y y refl ∙ sym e
      go false p true q = let e = (bytes_eq-Decides z y).0 q in ap (swap_name x y) (swap_y z e) ∙ swap_x x refl ∙ sym e
      go false p false q = let e = other (bytes_eq z x) (bytes_eq z y) p q in ap (swap_name x y) e ∙ e

  same_name : (z w : List ℕ) → bytes_eq (swap_name x y z) (swap_name x y w) ≡ bytes_eq z w
  same_name z w = go (bytes_eq z w) refl (bytes_eq (swap_name x y z) (swap_name x y w)) refl
    where
      go : (a : Bool) → bytes_eq z w ≡ a → (b : Bool) → bytes_eq (swap_name x y z) (swap_name x y w) ≡ b →
          bytes_eq (swap_name x y z) (swap_name x y w) ≡ bytes_eq z w
      go true p b q = (bytes_eq-Decides (swap_name x y z) (swap_name x y w)).1 (ap (swap_name x y) ((bytes_eq-Decides z w).0 p)) ∙ sym p
      go false p false q = q ∙ sym p
      go false p true q =
          let same : z ≡ w = sym (swap_twice z) ∙ ap (swap_name x y) ((bytes_eq-Decides (swap_name x y z) (swap_name x y w)).0 q) ∙ swap_twice w in
          let is : bytes_eq z w ≡ true = (bytes_eq-Decides z w).1 same in
          cc

  same_among : (z : List ℕ) (zs : List (List ℕ)) → list_any (bytes_eq (swap_name x y z)) (map (swap_name x y) zs) ≡ list_any (bytes_eq z) zs
  same_among z [] = refl
  same_among z (w ∷ zs) = let a = same_name z w in let b = same_among z zs in λ i. a i || b i

  same_distinct : (zs : List (List ℕ)) → all_distinct (map (swap_name x y) zs) ≡ all_distinct zs
  same_distinct [] = refl
  same_distinct (z ∷ zs) = let a = same_among z zs in let b = same_distinct zs in λ i. not (a i) && b i

  swap_evolved : (items : List OdeItem) → evolved (map (swap_item x y) items) ≡ map (swap_name x y) (evolved items)
  swap_evolved [] = refl
  swap_evolved (Item.Evolve z ∷ items) = ap (λ zs. swap_name x y z ∷ zs) (swap_evolved items)
  swap_evolved (Item.Const s ∷ items) = swap_evolved items

  swap_kid_sorts : (op : Op) → kid_sorts (swap_op x y op) ≡ kid_sorts op
  swap_kid_sorts (Op'.System items) =
      let e : length (evolved (map (swap_item x y) items)) ≡ length (evolved items) =
      ap (λ (l : List (List ℕ)). length l) (swap_evolved items) ∙ length-map (evolved items) (swap_name x y) in
      ap (λ n. replicate n Term ++ Formula ∷ []) e
  swap_kid_sorts _ = refl

  pub swap_sort_of : (op : Op) → sort_of (swap_op x y op) ≡ sort_of op
  swap_sort_of (Op'.System items) = refl
  swap_sort_of _ = refl

  pub swap_sort : (t : Tree) → sort (swap x y t) ≡ sort t
  swap_sort (node op kids) = swap_sort_of op

  pub swap_sorts : (ts : Forest) → sorts (swap_all x y ts) ≡ sorts ts
  swap_sorts no_kids = refl
  swap_sorts (kid t rest) = let a = swap_sort t in let b = swap_sorts rest in λ i. a i ∷ b i

  mutual
    pub swap_size : (t : Tree) → size (swap x y t) ≡ size t
    swap_size (node op kids) = ap (λ n. 1 + n) (swap_size_all kids)

    swap_size_all : (ts : Forest) → size_all (swap_all x y ts) ≡ size_all ts
    swap_size_all no_kids = refl
    swap_size_all (kid t rest) = let a = swap_size t in let b = swap_size_all rest in λ i. a i + b i

  mutual
    pub swap_depth : (t : Tree) → depth (swap x y t) ≡ depth t
    swap_depth (node op kids) = ap (λ n. 1 + n) (swap_depth_all kids)

    swap_depth_all : (ts : Forest) → depth_all (swap_all x y ts) ≡ depth_all ts
    swap_depth_all no_kids = refl
    swap_depth_all (kid t rest) = let a = swap_depth t in let b = swap_depth_all rest in λ i. max (a i) (b i)

  -- Of two names that are ones, operators that fit stay so:
  module _ (real_x : IsTrue (is_name x)) (real_y : IsTrue (is_name y)) where
    swap_real : (z : List ℕ) → IsTrue (is_name z) → IsTrue (is_name (swap_name x y z))
    swap_real z real = swap_cases (λ n. IsTrue (is_name n)) z real_x real_y real

    real_taboo : (taboo : Option (List ℕ)) → IsTrue (taboo_is_name taboo) → IsTrue (taboo_is_name (option_map (swap_name x y) taboo))
    real_taboo None h = refl
    real_taboo (Some z) h = swap_real z h

    same_taboo : (kind : Kind) (taboo : Option (List ℕ)) →
        (is_none (option_map (swap_name x y) taboo) || (kind_row kind).taboo) ≡ (is_none taboo || (kind_row kind).taboo)
    same_taboo kind None = refl
    same_taboo kind (Some z) = refl

    real_sym : (s : Sym) → IsTrue (is_sym s) → IsTrue (is_sym (swap_sym x y s))
    real_sym s h =
        let name = is_name s.name in
        let arity = has_arity s.kind s.arity in
        let all = and_parts (name && arity && taboo_is_name s.taboo) (is_none s.taboo || (kind_row s.kind).taboo) h in
        let three = and_parts (name && arity) (taboo_is_name s.taboo) all.0 in
        true_both _ _ (true_both _ _ three.0 (real_taboo s.taboo three.1)) (same_taboo s.kind s.taboo ∙ all.1)

    real_sym_of : (kind : Kind) (s : Sym) → IsTrue (is_sym_of kind s) → IsTrue (is_sym_of kind (swap_sym x y s))
    real_sym_of kind s h = let both = and_parts (kind_rank s.kind == kind_rank kind) (is_sym s) h in true_both _ _ both.0 (real_sym s both.1)

    real_item : (item : OdeItem) → IsTrue (is_item item) → IsTrue (is_item (swap_item x y item))
    real_item (Item.Evolve z) h = swap_real z h
    real_item (Item.Const s) h = real_sym_of Ode s h

    real_items : (items : List OdeItem) → IsTrue (list_all is_item items) → IsTrue (list_all is_item (map (swap_item x y) items))
    real_items [] h = refl
    real_items (item ∷ items) h = let both = and_parts (is_item item) _ h in true_both _ _ (real_item item both.0) (real_items items both.1)

    swap_items : (items : List OdeItem) → IsTrue (are_items items) → IsTrue (are_items (map (swap_item x y) items))
    swap_items items h =
        let count : length (map (swap_item x y) items) ≡ length items = length-map items (swap_item x y) in
        let some = nat_le 1 (length items) in
        let few = nat_le (length items) 64 in
        let all = and_parts (some && few && list_all is_item items) (all_distinct (evolved items)) h in
        let three = and_parts (some && few) (list_all is_item items) all.0 in
        true_both _ _ (true_both _ _ (ap (λ n. nat_le 1 n && nat_le n 64) count ∙ three.0) (real_items items three.1))
        (ap all_distinct (swap_evolved items) ∙ same_distinct (evolved items) ∙ all.1)

    swap_parts : (op : Op) → IsTrue (has_parts op) → IsTrue (has_parts (swap_op x y op))
    swap_parts (Op'.Variable v) h = swap_real v.name h
    swap_parts (Op'.UnitFun s) h = real_sym_of UnitFunc s h
    swap_parts (Op'.Apply s) h = real_sym_of Func s h
    swap_parts (Op'.UnitPred s) h = real_sym_of UnitPred s h
    swap_parts (Op'.Holds s) h = real_sym_of Pred s h
    swap_parts (Op'.Predicational s) h = real_sym_of Quant s h
    swap_parts (Op'.Forall z) h = swap_real z h
    swap_parts (Op'.Exists z) h = swap_real z h
    swap_parts (Op'.Const s) h = real_sym_of Prog s h
    swap_parts (Op'.Assign v) h = swap_real v.name h
    swap_parts (Op'.Any z) h = swap_real z h
    swap_parts (Op'.System items) h = swap_items items h
    swap_parts _ h = h

    pub swap_fits : (op : Op) (kids : List Sort) → Fits op kids → Fits (swap_op x y op) kids
    swap_fits op kids f = record { kids_fit = f.kids_fit ∙ sym (swap_kid_sorts op); parts_fit = swap_parts op f.parts_fit }

    mutual
      pub swap_made : (t : Tree) → WellMade t → WellMade (swap x y t)
      swap_made (node op kids) made =
          (subst (λ ss. Fits (swap_op x y op) ss) (sym (swap_sorts kids)) (swap_fits op (sorts kids) made.0), swap_all_made kids made.1)

      swap_all_made : (ts : Forest) → AllWellMade ts → AllWellMade (swap_all x y ts)
      swap_all_made no_kids made = tt
      swap_all_made (kid t rest) made = (swap_made t made.0, swap_all_made rest made.1)

  -- a test that no exchange changes
  module _ (test : Op → Bool) (same : (op : Op) → test (swap_op x y op) ≡ test op) where
    mutual
      same_has : (t : Tree) → has test (swap x y t) ≡ has test t
      same_has (node op kids) = let a = same op in let b = same_any_has kids in λ i. a i || b i

      same_any_has : (ts : Forest) → any_has test (swap_all x y ts) ≡ any_has test ts
      same_any_has no_kids = refl
      same_any_has (kid t rest) = let a = same_has t in let b = same_any_has rest in λ i. a i || b i

  same_dot : (op : Op) → is_some_dot (swap_op x y op) ≡ is_some_dot op
  same_dot (Op'.Dot n) = refl
  same_dot _ = refl

  same_hole : (op : Op) → is_hole (swap_op x y op) ≡ is_hole op
  same_hole Op'.Hole = refl
  same_hole _ = refl

  pub swap_formula : IsTrue (is_name x) → IsTrue (is_name y) → (t : Tree) → IsFormula t → IsFormula (swap x y t)
  swap_formula real_x real_y t h = record {
    well_made = swap_made real_x real_y t h.well_made;
    sort_is = swap_sort t ∙ h.sort_is;
    no_dot = same_has is_some_dot same_dot t ∙ h.no_dot;
    no_hole = same_has is_hole same_hole t ∙ h.no_hole;
  }

  swap_formulas : IsTrue (is_name x) → IsTrue (is_name y) → (ts : List Tree) → All IsFormula ts → All IsFormula (map (swap x y) ts)
  swap_formulas real_x real_y [] h = All-nil IsFormula
  swap_formulas real_x real_y (t ∷ ts) h =
      All-cons IsFormula _ _ (swap_formula real_x real_y t (All-head IsFormula t ts h)) (swap_formulas real_x real_y ts (All-tail IsFormula t ts h))

  pub swap_is_sequent : IsTrue (is_name x) → IsTrue (is_name y) → (s : Sequent) → IsSequent s → IsSequent (swap_sequent x y s)
  swap_is_sequent real_x real_y s h = record { ante = swap_formulas real_x real_y s.ante h.ante; succ = swap_formulas real_x real_y s.succ h.succ }

  pub swap_sequents : IsTrue (is_name x) → IsTrue (is_name y) → (all : List Sequent) → All IsSequent all → All IsSequent (map (swap_sequent x y) all)
  swap_sequents real_x real_y [] h = All-nil IsSequent
  swap_sequents real_x real_y (s ∷ all) h =
      All-cons IsSequent _ _ (swap_is_sequent real_x real_y s (All-head IsSequent s all h)) (swap_sequents real_x real_y all (All-tail IsSequent s all h))
