-- Plugging, filling and substitution make well-made trees, but for a system with other items than a system may have.
use Rattle.std.proofs.Common.{◌≡◌, refl, sym, subst, List, Bool, true, false, Option, None, Some, cond}
use Rattle.std.specs.Prelude.{All, IsTrue}
use Rattle.std.proofs.lemmas.List.Elements.{All-cons, All-nil}
use Rattle.dlk_tree.specs.declared.op.Sym.{Sym}
use Rattle.dlk_tree.specs.declared.op.Sort.TheVariants.{Formula}
use Rattle.dlk_tree.specs.declared.op.OdeItem.{OdeItem}
use Rattle.dlk_tree.specs.declared.op.Op.{Op}
use Rattle.dlk_tree.specs.declared.op.Op.TheVariants as Op'
use Rattle.dlk_tree.specs.Table.{are_items, Fits}
use Rattle.dlk_tree.specs.Trees.{Tree, node, Forest, no_kids, kid, trees_in, sort, sorts, WellMade, AllWellMade}
use Rattle.dlk_tree.specs.Statics.{all}
use Rattle.dlk_tree.specs.Occurs.{is_hole}
use Rattle.dlk_calculus.specs.Kids.{first, last}
use Rattle.dlk_calculus.specs.Captures.{Stays}
use Rattle.dlk_calculus.specs.Plug.{PlugAt, Plug, PlugAll, filled, filled_all}
use Rattle.dlk_calculus.specs.Pairs.{Pair, replacement, AreWellMade}
use Rattle.dlk_calculus.specs.Subst.{IsAdmissible, Replaced, SubstAt, new_members, items_of, kids_of}
use Rattle.dlk_calculus.proofs.WellFormed.{replacement_made}
use Rattle.dlk_calculus.proofs.Sorts.{AreTerms, argument_has, plug_sorts, fill_sorts, fits_still, terms_replicated, first_sort}
use Rattle.dlk_calculus.proofs.Systems.{system_fits, new_kids_made}

pub trees_made : (kids : Forest) → AllWellMade kids → All WellMade (trees_in kids)
trees_made no_kids made = All-nil WellMade
trees_made (kid t ts) made = All-cons WellMade t (trees_in ts) made.0 (trees_made ts made.1)

-- an operator that stays over kids that it fits
stays_made : (op : Op) (new : Forest) (t : Tree) → Fits op (sorts new) → AllWellMade new → t ≡ node op new → WellMade t
stays_made op new t fits made e = subst WellMade (sym e) (fits, made)

-- ---- plugging

module _ (args : List Tree) (terms : AreTerms args) (args_made : All WellMade args) where
  pub plug_at_made : (op : Op) (old new : Forest) (t : Tree) → Fits op (sorts new) → AllWellMade new → PlugAt args op old new t → WellMade t
  plug_at_made (Op'.Dot n) old new t fits made p = argument_has WellMade args n t args_made p
  plug_at_made op old new t fits made p = stays_made op new t fits made p.1

  mutual
    pub plug_made : (r t : Tree) → WellMade r → Plug args r t → WellMade t
    plug_made (node op kids) t made p =
        let fits = fits_still op kids p.0 made.0 (plug_sorts args kids p.0 terms p.1) in
        plug_at_made op kids p.0 t fits (plug_all_made kids p.0 made.1 p.1) p.2

    pub plug_all_made : (rs ts : Forest) → AllWellMade rs → PlugAll args rs ts → AllWellMade ts
    plug_all_made no_kids no_kids made p = tt
    plug_all_made no_kids (kid t ts) made p = absurd p
    plug_all_made (kid r rs) no_kids made p = absurd p
    plug_all_made (kid r rs) (kid t ts) made p = (plug_made r t made.0 p.0, plug_all_made rs ts made.1 p.1)

-- ---- filling

choice_made : (b : Bool) (f t : Tree) → WellMade f → WellMade t → WellMade (cond b f t)
choice_made true f t p q = p
choice_made false f t p q = q

module _ (f : Tree) (is_formula : sort f ≡ Formula) (f_made : WellMade f) where
  mutual
    pub fill_made : (r : Tree) → WellMade r → WellMade (filled f r)
    fill_made (node op kids) made =
        let fits = fits_still op kids (filled_all f kids) made.0 (fill_sorts f kids is_formula) in
        choice_made (is_hole op) f (node op (filled_all f kids)) f_made (fits, fill_all_made kids made.1)

    pub fill_all_made : (rs : Forest) → AllWellMade rs → AllWellMade (filled_all f rs)
    fill_all_made no_kids made = tt
    fill_all_made (kid r rs) made = (fill_made r made.0, fill_all_made rs made.1)

-- ---- substitution

pub first_made : (kids : Forest) → AllWellMade kids → WellMade (first kids)
first_made no_kids made = (record { kids_fit = refl; parts_fit = refl }, tt)
first_made (kid t ts) made = made.0

-- the operator is no system, or its new items are items of a system
abbrev pub HasItems : List Pair → Op → Forest → Type 0
HasItems pairs (Op'.System items) new = IsTrue (are_items (items_of (new_members pairs items new)))
HasItems pairs _ new = Unit {0}

module _ (pairs : List Pair) (pairs_made : AreWellMade pairs) where
  -- a replacement or the operator itself
  replaced_made : (o : Option Tree) (op : Op) (old new : Forest) (t : Tree) (With : Tree → Type 0) → ((r : Tree) → o ≡ Some r → With r → WellMade t)
      → Fits op (sorts new) → AllWellMade new → Replaced o With (Stays (IsAdmissible pairs) op old new t) → WellMade t
  replaced_made (Some r) op old new t With h fits made p = h r refl p
  replaced_made None op old new t With h fits made p = stays_made op new t fits made p.1

  found_made : (s : Sym) (r : Tree) → replacement pairs s ≡ Some r → WellMade r
  found_made s r found = replacement_made pairs s r pairs_made found

  given_made : (s : Sym) (op : Op) (old new : Forest) (t : Tree) → Fits op (sorts new) → AllWellMade new
      → Replaced (replacement pairs s) (λ r. t ≡ r) (Stays (IsAdmissible pairs) op old new t) → WellMade t
  given_made s op old new t fits made p =
      replaced_made (replacement pairs s) op old new t (λ r. t ≡ r) (λ r found h. subst WellMade (sym h) (found_made s r found)) fits made p

  plugged_made : (s : Sym) (op : Op) (old new : Forest) (t : Tree) → Fits op (sorts new) → AllWellMade new → AreTerms (trees_in new)
      → Replaced (replacement pairs s) (λ r. Plug (trees_in new) r t) (Stays (IsAdmissible pairs) op old new t) → WellMade t
  plugged_made s op old new t fits made terms p =
      replaced_made (replacement pairs s) op old new t (λ r. Plug (trees_in new) r t)
      (λ r found h. plug_made (trees_in new) terms (trees_made new made) r t (found_made s r found) h) fits made p

  filled_made : (s : Sym) (op : Op) (old new : Forest) (t : Tree) → Fits op (sorts new) → AllWellMade new → sort (first new) ≡ Formula
      → Replaced (replacement pairs s) (λ r. IsAdmissible pairs all old × (t ≡ filled (first new) r)) (Stays (IsAdmissible pairs) op old new t) → WellMade t
  filled_made s op old new t fits made f p =
      replaced_made (replacement pairs s) op old new t (λ r. IsAdmissible pairs all old × (t ≡ filled (first new) r))
      (λ r found h. subst WellMade (sym h.1) (fill_made (first new) f (first_made new made) r (found_made s r found))) fits made p

  -- an operator's result over new kids that it fits
  pub subst_at_made : (op : Op) (old new : Forest) (t : Tree)
      → Fits op (sorts new) → AllWellMade new → HasItems pairs op new → SubstAt pairs op old new t → WellMade t
  subst_at_made (Op'.UnitFun s) old new t fits made good p = given_made s (Op'.UnitFun s) old new t fits made p
  subst_at_made (Op'.UnitPred s) old new t fits made good p = given_made s (Op'.UnitPred s) old new t fits made p
  subst_at_made (Op'.Const s) old new t fits made good p = given_made s (Op'.Const s) old new t fits made p
  subst_at_made (Op'.Apply s) old new t fits made good p = plugged_made s (Op'.Apply s) old new t fits made (terms_replicated new s.arity fits.kids_fit) p
  subst_at_made (Op'.Holds s) old new t fits made good p = plugged_made s (Op'.Holds s) old new t fits made (terms_replicated new s.arity fits.kids_fit) p
  subst_at_made (Op'.Predicational s) old new t fits made good p =
      filled_made s (Op'.Predicational s) old new t fits made (first_sort new Formula fits.kids_fit) p
  subst_at_made (Op'.System items) old new t fits made good p =
      let now = (system_fits pairs pairs_made items new fits).1 good in
      stays_made (Op'.System (items_of (new_members pairs items new))) (kids_of (new_members pairs items new) (last new)) t now
      (new_kids_made pairs pairs_made items new made) p.1
  subst_at_made op old new t fits made good p = stays_made op new t fits made p.1

-- a well-made system has items of a system
pub system_items : (pairs : List Pair) (items : List OdeItem) (old new : Forest) (t : Tree)
    → SubstAt pairs (Op'.System items) old new t → WellMade t → IsTrue (are_items (items_of (new_members pairs items new)))
system_items pairs items old new t p made = (subst WellMade p.1 made).0.parts_fit
