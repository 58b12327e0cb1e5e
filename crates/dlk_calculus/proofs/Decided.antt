-- Whether plugging and substitution make something is decided.
use Rattle.std.proofs.Common.{◌≡◌, refl, subst, ℕ, suc, zero, List, [], ◌∷◌, Bool, ◌&&◌, Option, None, Some, slice_get, inl, inr, ◌⊎◌}
use Rattle.std.specs.Prelude.{All, IsTrue, ◌↔◌}
use Rattle.std.proofs.lemmas.Option.{none-some, same_Some}
use Rattle.std.proofs.lemmas.List.Elements.{All-cons, All-nil, All-head, All-tail}
use Rattle.dlk_tree.specs.declared.op.Var.{Var}
use Rattle.dlk_tree.specs.declared.op.Sym.{Sym}
use Rattle.dlk_tree.specs.declared.op.Op.{Op}
use Rattle.dlk_tree.specs.declared.op.Op.TheVariants as Op'
use Rattle.dlk_tree.specs.Table.{kind_row}
use Rattle.dlk_tree.specs.Trees.{Tree, node, Forest, no_kids, kid, trees_in, WellMade}
use Rattle.dlk_tree.specs.Statics.{free, all}
use Rattle.dlk_tree.specs.Occurs.{any_has, has_symbol, is_dot}
use Rattle.dlk_calculus.specs.Kids.{first, last}
use Rattle.dlk_calculus.specs.Captures.{captures, AreApart, Stays}
use Rattle.dlk_calculus.specs.Plug.{IsClear, PlugAt, Plug, PlugAll, filled}
use Rattle.dlk_calculus.specs.Pairs.{Pair, replacement, IsFreeIn, IsWellFormed, AreWellMade}
use Rattle.dlk_calculus.specs.Subst.{IsAdmissible, Replaced, new_members, items_of, kids_of, SubstAt, Subst, SubstAll}
use Rattle.dlk_calculus.proofs.Decide.{both, is_true, well_made_decided}
use Rattle.dlk_calculus.specs.OneResult.{one_plug_all, one_subst_at, one_subst_all}
use Rattle.dlk_calculus.proofs.WellFormed.{well_formed_or_ill}
use Rattle.dlk_calculus.proofs.Told.{Told, free_told, inhabited_decided, apart_decided, captures_told}

-- ---- what follows from what is decided

same_decided : {A B : Type 0} → (A → B) → (B → A) → Dec A → Dec B
same_decided f g (yes a) = yes (f a)
same_decided f g (no n) = no (λ b. n (g b))

implied_decided : {A B : Type 0} → Dec A → Dec B → Dec (A → B)
implied_decided (yes a) (yes b) = yes (λ _. b)
implied_decided (yes a) (no n) = no (λ f. n (f a))
implied_decided (no n) b = yes (λ a. absurd (n a))

pub all_decided : {A : Type 0} (P : A → Type 0) → ((x : A) → Dec (P x)) → (xs : List A) → Dec (All P xs)
all_decided P each [] = yes (All-nil P)
all_decided P each (x ∷ xs) = both (All-cons P x xs) (All-head P x xs) (All-tail P x xs) (each x) (all_decided P each xs)

-- of each item at its place
at_decided : {A : Type 0} (P : ℕ → A → Type 0) → ((n : ℕ) (x : A) → Dec (P n x)) → (xs : List A) → Dec ((n : ℕ) (x : A) → slice_get xs n ≡ Some x → P n x)
at_decided P each [] = yes (λ n x e. absurd (none-some x e))
at_decided {A} P each (y ∷ ys) = both all (λ h. h 0 y refl) (λ h n x e. h (suc n) x e) (each 0 y) (at_decided (λ n. P (suc n)) (λ n. each (suc n)) ys)
  where
    all : P 0 y → ((n : ℕ) (x : A) → slice_get ys n ≡ Some x → P (suc n) x) → (n : ℕ) (x : A) → slice_get (y ∷ ys) n ≡ Some x → P n x
    all here rest zero x e = subst (P 0) (same_Some y x e) here
    all here rest (suc n) x e = rest n x e

-- there is one that is so and so, where there is at most one that is so
chained : {A : Type 0} (P Q : A → Type 0) → ((x y : A) → P x → P y → x ≡ y) → Dec ((x : A) × P x) → ((x : A) → Dec (Q x)) → Dec ((x : A) × P x × Q x)
chained P Q one (no n) each = no (λ h. n (h.0, h.1))
chained P Q one (yes p) each = elim (each p.0) [ yes q ↦ yes (p.0, p.1, q) | no n ↦ no (λ h. n (subst Q (one h.0 p.0 h.1 p.1) h.2)) ]

-- r, where this holds
only_decided : {A : Type 0} (r : Tree) → Dec A → Dec ((t : Tree) × (A × (t ≡ r)))
only_decided r = same_decided (λ a. (r, (a, refl))) (λ h. h.1.0)

-- a list of kids, by its first and the others
kids_decided : (T : Tree → Type 0) (Ts K : Forest → Type 0) → ((t : Tree) (ts : Forest) → K (kid t ts) ↔ (T t × Ts ts)) → (K no_kids → ⊥) →
    Dec ((t : Tree) × T t) → Dec ((ts : Forest) × Ts ts) → Dec ((ts : Forest) × K ts)
kids_decided T Ts K parts none = both (λ p q. (kid p.0 q.0, (parts p.0 q.0).1 (p.1, q.1))) (λ h. front h.0 h.1) (λ h. behind h.0 h.1)
  where
    front : (ts : Forest) → K ts → (t : Tree) × T t
    front no_kids k = absurd (none k)
    front (kid t ts) k = (t, ((parts t ts).0 k).0)

    behind : (ts : Forest) → K ts → (ts : Forest) × Ts ts
    behind no_kids k = absurd (none k)
    behind (kid t ts) k = (ts, ((parts t ts).0 k).1)

-- ---- an operator that stays

module _ (Admissible : (Var → Bool) → Forest → Type 0) (decide : (set : Var → Bool) → Told set → (trees : Forest) → Dec (Admissible set trees)) where
  stays_decided : (op : Op) (old new : Forest) → Dec ((t : Tree) × Stays Admissible op old new t)
  stays_decided op old new = only_decided (node op new) (decide ((captures op).set new) (captures_told op new) ((captures op).reach old))

-- ---- plugging

module _ (args : List Tree) where
  clear_decided : (set : Var → Bool) → Told set → (trees : Forest) → Dec (IsClear args set trees)
  clear_decided set told trees =
      same_decided (λ h. record { clear = h }) (λ c. c.clear)
      (at_decided (λ n a. IsTrue (any_has (is_dot n) trees) → AreApart set (free a))
      (λ n a. implied_decided (is_true _) (apart_decided set (free a) told (free_told a))) args)

  found_decided : (o : Option Tree) → Dec ((t : Tree) × (o ≡ Some t))
  found_decided None = no (λ h. none-some h.0 h.1)
  found_decided (Some r) = yes (r, refl)

  plug_at_decided : (op : Op) (old new : Forest) → Dec ((t : Tree) × PlugAt args op old new t)
  plug_at_decided (Op'.Dot n) old new = found_decided (slice_get args n)
  plug_at_decided op old new = stays_decided (IsClear args) clear_decided op old new

  mutual
    plug_decided : (r : Tree) → Dec ((t : Tree) × Plug args r t)
    plug_decided (node op kids) =
        same_decided (λ h. (h.2.0, (h.0, h.1, h.2.1))) (λ h. (h.1.0, h.1.1, (h.0, h.1.2)))
        (chained (PlugAll args kids) (λ new. (t : Tree) × PlugAt args op kids new t) (one_plug_all args kids) (plug_all_decided kids) (plug_at_decided op kids))

    plug_all_decided : (rs : Forest) → Dec ((ts : Forest) × PlugAll args rs ts)
    plug_all_decided no_kids = yes (no_kids, tt)
    plug_all_decided (kid r rs) =
        kids_decided (Plug args r) (PlugAll args rs) (PlugAll args (kid r rs)) (λ t ts. (λ k. k, λ k. k)) (λ k. k) (plug_decided r) (plug_all_decided rs)

-- ---- substitution

module _ (pairs : List Pair) where
  admissible_decided : (set : Var → Bool) → Told set → (trees : Forest) → Dec (IsAdmissible pairs set trees)
  admissible_decided set told trees =
      all_decided (λ (p : Pair). IsTrue ((kind_row p.sym.kind).arguments && any_has (has_symbol p.sym) trees) → AreApart set (free p.by))
      (λ p. implied_decided (is_true _) (apart_decided set (free p.by) told (free_told p.by))) pairs

  kept_decided : (op : Op) (old new : Forest) → Dec ((t : Tree) × Stays (IsAdmissible pairs) op old new t)
  kept_decided = stays_decided (IsAdmissible pairs) admissible_decided

  -- with a replacement or without
  replaced_decided : (With : Tree → Tree → Type 0) → ((r : Tree) → Dec ((t : Tree) × With r t)) → (o : Option Tree) (op : Op) (old new : Forest)
      → Dec ((t : Tree) × Replaced o (λ r. With r t) (Stays (IsAdmissible pairs) op old new t))
  replaced_decided With each (Some r) op old new = each r
  replaced_decided With each None op old new = kept_decided op old new

  given_decided : (s : Sym) (op : Op) (old new : Forest) →
      Dec ((t : Tree) × Replaced (replacement pairs s) (λ r. t ≡ r) (Stays (IsAdmissible pairs) op old new t))
  given_decided s = replaced_decided (λ r t. t ≡ r) (λ r. yes (r, refl)) (replacement pairs s)

  plugged_decided : (s : Sym) (op : Op) (old new : Forest) →
      Dec ((t : Tree) × Replaced (replacement pairs s) (λ r. Plug (trees_in new) r t) (Stays (IsAdmissible pairs) op old new t))
  plugged_decided s op old new = replaced_decided (Plug (trees_in new)) (plug_decided (trees_in new)) (replacement pairs s) op old new

  subst_at_decided : (op : Op) (old new : Forest) → Dec ((t : Tree) × SubstAt pairs op old new t)
  subst_at_decided (Op'.UnitFun s) old new = given_decided s (Op'.UnitFun s) old new
  subst_at_decided (Op'.UnitPred s) old new = given_decided s (Op'.UnitPred s) old new
  subst_at_decided (Op'.Const s) old new = given_decided s (Op'.Const s) old new
  subst_at_decided (Op'.Apply s) old new = plugged_decided s (Op'.Apply s) old new
  subst_at_decided (Op'.Holds s) old new = plugged_decided s (Op'.Holds s) old new
  subst_at_decided (Op'.Predicational s) old new =
      replaced_decided (λ r t. IsAdmissible pairs all old × (t ≡ filled (first new) r))
      (λ r. only_decided (filled (first new) r) (admissible_decided all (free_told (node Op'.Hole no_kids)) old))
      (replacement pairs s) (Op'.Predicational s) old new
  subst_at_decided (Op'.System items) old new =
      kept_decided (Op'.System (items_of (new_members pairs items new))) old (kids_of (new_members pairs items new) (last new))
  subst_at_decided op old new = kept_decided op old new

  mutual
    result_decided : (e : Tree) → Dec ((t : Tree) × Subst pairs e t)
    result_decided (node op kids) =
        same_decided (λ h. (h.2.0, (h.0, h.1, h.2.1, h.2.2))) (λ h. (h.1.0, h.1.1, (h.0, h.1.2, h.1.3)))
        (chained (SubstAll pairs kids) (λ new. (t : Tree) × SubstAt pairs op kids new t × WellMade t) (one_subst_all pairs kids) (results_decided kids)
        (λ new. chained (SubstAt pairs op kids new) WellMade (one_subst_at pairs op kids new) (subst_at_decided op kids new) well_made_decided))

    results_decided : (es : Forest) → Dec ((ts : Forest) × SubstAll pairs es ts)
    results_decided no_kids = yes (no_kids, tt)
    results_decided (kid e es) =
        kids_decided (Subst pairs e) (SubstAll pairs es) (SubstAll pairs (kid e es)) (λ t ts. (λ k. k, λ k. k)) (λ k. k) (result_decided e) (results_decided es)

  pub subst_decided : (e : Tree) → ((t : Tree) × Subst pairs e t) ⊎ ((t : Tree) → Subst pairs e t → ⊥)
  subst_decided e = elim (result_decided e) [ yes h ↦ inl h | no n ↦ inr (λ t p. n (t, p)) ]

-- whether some variable is free in the replacement of a function or a predicate
pub free_in_decided : (pairs : List Pair) → Dec (IsFreeIn pairs)
free_in_decided [] = no (λ h. h)
free_in_decided (p ∷ pairs) =
    let takes = is_true (kind_row p.sym.kind).arguments in
    elim (both (λ k f. (k, f)) (λ c. c.0) (λ c. c.1) takes (inhabited_decided (free p.by) (free_told p.by))) [
      | yes f ↦ yes (inl f)
      | no n ↦ elim (free_in_decided pairs) [ yes f ↦ yes (inr f) | no m ↦ no (λ h. elim h [ inl f ↦ n f | inr f ↦ m f ]) ]
    ]

well_formed_decided : (pairs : List Pair) → Dec (IsWellFormed pairs)
well_formed_decided pairs = elim (well_formed_or_ill pairs) [ inl well ↦ yes well | inr ill ↦ no (λ well. well.none ill.0 ill.1 ill.2.ill) ]

all_made_decided : (pairs : List Pair) → Dec (AreWellMade pairs)
all_made_decided [] = yes (All-nil (λ (p : Pair). WellMade p.by))
all_made_decided (p ∷ pairs) =
    both (All-cons (λ (p : Pair). WellMade p.by) p pairs) (All-head (λ (p : Pair). WellMade p.by) p pairs)
    (All-tail (λ (p : Pair). WellMade p.by) p pairs) (well_made_decided p.by) (all_made_decided pairs)

pub good_pairs : (pairs : List Pair) → Dec (AreWellMade pairs × IsWellFormed pairs)
good_pairs pairs = both (λ a b. (a, b)) (λ c. c.0) (λ c. c.1) (all_made_decided pairs) (well_formed_decided pairs)
