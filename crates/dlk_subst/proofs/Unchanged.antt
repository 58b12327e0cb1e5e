-- What nothing is replaced in stays: a tree without the symbols of pairs, without argument dots, without `_`.
use Rattle.std.proofs.Common.{◌≡◌, refl, sym, ap, subst, ◌∙◌, ℕ, ◌<◌, List, [], ◌∷◌, ◌++◌, length, Bool, true, false, true≢false, cond, Option, None}
use Rattle.std.proofs.Common.{Some, eq-eqb, ltb-true}
use Rattle.std.specs.Prelude.{All, IsTrue, ◌&&◌}
use Rattle.std.specs.List.{list_any}
use Rattle.std.proofs.lemmas.Bool.{or_parts, or_from, and_parts}
use Rattle.std.proofs.lemmas.List.Elements.{All-head, All-tail, All-weaker}
use Rattle.dlk_tree.specs.declared.op.Var.{Var}
use Rattle.dlk_tree.specs.declared.op.Sym.{Sym}
use Rattle.dlk_tree.specs.declared.op.OdeItem.{OdeItem}
use Rattle.dlk_tree.specs.declared.op.OdeItem.TheVariants as Item
use Rattle.dlk_tree.specs.declared.op.Op.{Op}
use Rattle.dlk_tree.specs.declared.op.Op.TheVariants as Op'
use Rattle.dlk_tree.specs.Table.{evolved, kid_sorts, kind_row, has_parts, Fits}
use Rattle.dlk_tree.specs.Tests.{sym_eq}
use Rattle.dlk_tree.specs.Trees.{Tree, node, Forest, no_kids, kid, sort, sorts, WellMade, AllWellMade}
use Rattle.dlk_tree.specs.Statics.{free}
use Rattle.dlk_tree.specs.Occurs.{any_has, constants, has_symbol, occurs, is_dot, is_some_dot, has_dot, has_dots}
use Rattle.dlk_tree.proofs.Same.{sym_eq_decides}
use Rattle.dlk_calculus.specs.Kids.{first, last, later}
use Rattle.dlk_calculus.specs.Captures.{captures, AreApart, Stays}
use Rattle.dlk_calculus.specs.Pairs.{Pair, replacement}
use Rattle.dlk_calculus.specs.Subst.{IsAdmissible, Replaced, Equation, members, members_for, new_members, items_of, kids_of, SubstAt, Subst, SubstAll}
use Rattle.dlk_calculus.proofs.Lacks.{lacks}
use Rattle.dlk_calculus.proofs.Sorts.{tail}
use Rattle.dlk_subst.proofs.Splicing.{items_members, some_kid}

-- ---- systems

-- the right sides of a system and its domain are its kids
kids_members : (items : List OdeItem) (kids : Forest) → sorts kids ≡ kid_sorts (Op'.System items) → kids_of (members items kids) (last kids) ≡ kids
kids_members [] no_kids e = cc
kids_members [] (kid t no_kids) e = refl
kids_members [] (kid t (kid u rest)) e = let f : sort u ∷ sorts rest ≡ [] = ap tail e in cc
kids_members (Item.Evolve x ∷ items) no_kids e = cc
kids_members (Item.Evolve x ∷ items) (kid t no_kids) e = absurd (some_kid (length (evolved items)) (ap tail e))
kids_members (Item.Evolve x ∷ items) (kid t (kid u rest)) e = ap (kid t) (kids_members items (kid u rest) (ap tail e))
kids_members (Item.Const s ∷ items) kids e = kids_members items kids e

-- ---- symbols

other_symbol : (s t : Sym) → sym_eq t s ≡ false → sym_eq s t ≡ false
other_symbol s t e = by (sym_eq s t) refl
  where
    by : (b : Bool) → sym_eq s t ≡ b → b ≡ false
    by true same = let there = (sym_eq_decides t s).1 (sym ((sym_eq_decides s t).0 same)) in absurd (true≢false (sym there ∙ e))
    by false same = refl

no_replacement : (pairs : List Pair) (s : Sym) → All (λ (p : Pair). sym_eq p.sym s ≡ false) pairs → replacement pairs s ≡ None
no_replacement [] s none = refl
no_replacement (p ∷ pairs) s none =
    let other = other_symbol s p.sym (All-head (λ (q : Pair). sym_eq q.sym s ≡ false) p pairs none) in
    ap (λ b. cond b (Some p.by) (replacement pairs s)) other ∙ no_replacement pairs s (All-tail (λ (q : Pair). sym_eq q.sym s ≡ false) p pairs none)

unreplaced : (o : Option Tree) (With : Tree → Type 0) (Without : Type 0) → o ≡ None → Without → Replaced o With Without
unreplaced o With Without e stays = subst (λ r. Replaced r With Without) (sym e) stays

module _ (pairs : List Pair) where
  -- no symbol of a pair is one of the operator's, occurs in the tree, in the trees
  abbrev LacksAt : Op → Type 0
  LacksAt op = All (λ (p : Pair). has_symbol p.sym op ≡ false) pairs

  abbrev pub Lacks : Tree → Type 0
  Lacks t = All (λ (p : Pair). occurs p.sym t ≡ false) pairs

  abbrev AllLack : Forest → Type 0
  AllLack ts = All (λ (p : Pair). any_has (has_symbol p.sym) ts ≡ false) pairs

  op_lacks : (op : Op) (kids : Forest) → Lacks (node op kids) → LacksAt op
  op_lacks op kids none =
      All-weaker (λ (p : Pair). occurs p.sym (node op kids) ≡ false) (λ (p : Pair). has_symbol p.sym op ≡ false) (λ p e. (or_parts _ _ e).0) pairs none

  kids_lack : (op : Op) (kids : Forest) → Lacks (node op kids) → AllLack kids
  kids_lack op kids none =
      All-weaker (λ (p : Pair). occurs p.sym (node op kids) ≡ false) (λ (p : Pair). any_has (has_symbol p.sym) kids ≡ false) (λ p e. (or_parts _ _ e).1)
      pairs none

  first_lacks : (t : Tree) (rest : Forest) → AllLack (kid t rest) → Lacks t
  first_lacks t rest none =
      All-weaker (λ (p : Pair). any_has (has_symbol p.sym) (kid t rest) ≡ false) (λ (p : Pair). occurs p.sym t ≡ false) (λ p e. (or_parts _ _ e).0) pairs none

  rest_lack : (t : Tree) (rest : Forest) → AllLack (kid t rest) → AllLack rest
  rest_lack t rest none =
      All-weaker (λ (p : Pair). any_has (has_symbol p.sym) (kid t rest) ≡ false) (λ (p : Pair). any_has (has_symbol p.sym) rest ≡ false)
      (λ p e. (or_parts _ _ e).1) pairs none

  -- ---- what is captured

  later_lack : (kids : Forest) → AllLack kids → AllLack (later kids)
  later_lack no_kids none = none
  later_lack (kid t rest) none = rest_lack t rest none

  reach_lacks : (op : Op) (kids : Forest) → AllLack kids → AllLack ((captures op).reach kids)
  reach_lacks Op'.Box kids none = later_lack kids none
  reach_lacks Op'.Dia kids none = later_lack kids none
  reach_lacks Op'.Seq kids none = later_lack kids none
  reach_lacks _ kids none = none

  admissible : (set : Var → Bool) (kids : Forest) → AllLack kids → IsAdmissible pairs set kids
  admissible set kids none =
      All-weaker (λ (p : Pair). any_has (has_symbol p.sym) kids ≡ false)
      (λ (p : Pair). IsTrue ((kind_row p.sym.kind).arguments && any_has (has_symbol p.sym) kids) → AreApart set (free p.by))
      (λ p e there. absurd (true≢false (sym (and_parts _ _ there).1 ∙ e))) pairs none

  stays : (op : Op) (kids : Forest) → AllLack kids → Stays (IsAdmissible pairs) op kids kids (node op kids)
  stays op kids none = (admissible ((captures op).set kids) ((captures op).reach kids) (reach_lacks op kids none), refl)

  -- ---- rows

  -- the symbol of an operator has no pair
  no_pair : (op : Op) (s : Sym) → ((p : Pair) → has_symbol p.sym op ≡ false → sym_eq p.sym s ≡ false) → LacksAt op → replacement pairs s ≡ None
  no_pair op s is none =
      no_replacement pairs s (All-weaker (λ (p : Pair). has_symbol p.sym op ≡ false) (λ (p : Pair). sym_eq p.sym s ≡ false) is pairs none)

  abbrev LackConstants : List OdeItem → Type 0
  LackConstants items = All (λ (p : Pair). list_any (sym_eq p.sym) (constants items) ≡ false) pairs

  -- the constants of a system stay
  same_members : (items : List OdeItem) (kids : Forest) → LackConstants items → new_members pairs items kids ≡ members items kids
  same_members [] kids none = refl
  same_members (Item.Evolve x ∷ items) kids none = ap (λ ms. Equation x (first kids) ∷ ms) (same_members items (later kids) none)
  same_members (Item.Const s ∷ items) kids none =
      let here = no_replacement pairs s
      (All-weaker (λ (p : Pair). list_any (sym_eq p.sym) (constants (Item.Const s ∷ items)) ≡ false) (λ (p : Pair). sym_eq p.sym s ≡ false)
      (λ p e. (or_parts _ _ e).0) pairs none) in
      let rest = same_members items kids
      (All-weaker (λ (p : Pair). list_any (sym_eq p.sym) (constants (Item.Const s ∷ items)) ≡ false)
      (λ (p : Pair). list_any (sym_eq p.sym) (constants items) ≡ false) (λ p e. (or_parts _ _ e).1) pairs none) in
      λ i. members_for s (here i) ++ rest i

  system_itself : (items : List OdeItem) (kids : Forest) → Fits (Op'.System items) (sorts kids) → LackConstants items → AllLack kids
      → SubstAt pairs (Op'.System items) kids kids (node (Op'.System items) kids)
  system_itself items kids fits here none =
      let same = same_members items kids here in
      let i = ap items_of same ∙ items_members items kids in
      let k = ap (λ ms. kids_of ms (last kids)) same ∙ kids_members items kids fits.kids_fit in
      subst (λ X. X) (λ j. Stays (IsAdmissible pairs) (Op'.System (sym i j)) kids (sym k j) (node (Op'.System items) kids)) (stays (Op'.System items) kids none)

  row_itself : (op : Op) (kids : Forest) → Fits op (sorts kids) → LacksAt op → AllLack kids → SubstAt pairs op kids kids (node op kids)
  row_itself (Op'.UnitFun s) kids fits here none =
      unreplaced (replacement pairs s) _ _ (no_pair (Op'.UnitFun s) s (λ p e. (or_parts _ _ e).0) here) (stays (Op'.UnitFun s) kids none)
  row_itself (Op'.UnitPred s) kids fits here none =
      unreplaced (replacement pairs s) _ _ (no_pair (Op'.UnitPred s) s (λ p e. (or_parts _ _ e).0) here) (stays (Op'.UnitPred s) kids none)
  row_itself (Op'.Const s) kids fits here none =
      unreplaced (replacement pairs s) _ _ (no_pair (Op'.Const s) s (λ p e. (or_parts _ _ e).0) here) (stays (Op'.Const s) kids none)
  row_itself (Op'.Apply s) kids fits here none =
      unreplaced (replacement pairs s) _ _ (no_pair (Op'.Apply s) s (λ p e. (or_parts _ _ e).0) here) (stays (Op'.Apply s) kids none)
  row_itself (Op'.Holds s) kids fits here none =
      unreplaced (replacement pairs s) _ _ (no_pair (Op'.Holds s) s (λ p e. (or_parts _ _ e).0) here) (stays (Op'.Holds s) kids none)
  row_itself (Op'.Predicational s) kids fits here none =
      unreplaced (replacement pairs s) _ _ (no_pair (Op'.Predicational s) s (λ p e. (or_parts _ _ e).0) here) (stays (Op'.Predicational s) kids none)
  row_itself (Op'.System items) kids fits here none = system_itself items kids fits here none
  row_itself op kids fits here none = stays op kids none

  mutual
    pub subst_itself : (t : Tree) → WellMade t → Lacks t → Subst pairs t t
    subst_itself (node op kids) made none =
        let below = kids_lack op kids none in
        (kids, all_itself kids made.1 below, row_itself op kids made.0 (op_lacks op kids none) below, made)

    all_itself : (ts : Forest) → AllWellMade ts → AllLack ts → SubstAll pairs ts ts
    all_itself no_kids made none = tt
    all_itself (kid t rest) made none = (subst_itself t made.0 (first_lacks t rest none), all_itself rest made.1 (rest_lack t rest none))

-- ---- argument dots

op_without_dot : (op : Op) → IsTrue (has_parts op) → ((n : ℕ) → n < 8 → is_dot n op ≡ false) → is_some_dot op ≡ false
op_without_dot (Op'.Dot m) parts none = absurd (true≢false (sym (eq-eqb m m refl) ∙ none m (ltb-true m 8 parts)))
op_without_dot _ parts none = refl

mutual
  -- the dots of a well-made tree are below 8
  pub without_dots : (t : Tree) → WellMade t → ((n : ℕ) → n < 8 → has_dot n t ≡ false) → has_dots t ≡ false
  without_dots (node op kids) made none =
      or_from _ _ (op_without_dot op made.0.parts_fit (λ n h. (or_parts _ _ (none n h)).0)) (all_without_dots kids made.1 (λ n h. (or_parts _ _ (none n h)).1))

  all_without_dots : (ts : Forest) → AllWellMade ts → ((n : ℕ) → n < 8 → any_has (is_dot n) ts ≡ false) → any_has is_some_dot ts ≡ false
  all_without_dots no_kids made none = refl
  all_without_dots (kid t rest) made none =
      or_from _ _ (without_dots t made.0 (λ n h. (or_parts _ _ (none n h)).0)) (all_without_dots rest made.1 (λ n h. (or_parts _ _ (none n h)).1))

some_dot_only : (n : ℕ) (op : Op) → is_some_dot op ≡ false → is_dot n op ≡ false
some_dot_only n (Op'.Dot m) e = absurd (true≢false e)
some_dot_only n _ e = refl

-- a dot is some dot
pub with_dot : (n : ℕ) (t : Tree) → has_dot n t ≡ true → has_dots t ≡ true
with_dot n t there = by (has_dots t) refl
  where
    by : (b : Bool) → has_dots t ≡ b → b ≡ true
    by true e = refl
    by false e = absurd (true≢false (sym there ∙ lacks is_some_dot is_some_dot (is_dot n) (λ op p q. some_dot_only n op p) t e e))
