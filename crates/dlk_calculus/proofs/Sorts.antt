-- Plugging, filling and substitution keep the sort.
use Rattle.std.proofs.Common.{◌≡◌, refl, sym, ap, subst, ◌∙◌, ℕ, zero, suc, List, [], ◌∷◌, replicate, Bool, true, false, ◌||◌, not, ◌==◌, Option, None}
use Rattle.std.proofs.Common.{Some, slice_get, cond}
use Rattle.std.specs.Prelude.{All, IsTrue}
use Rattle.std.proofs.lemmas.List.Elements.{All-cons, All-nil}
use Rattle.std.proofs.lemmas.Option.{slice_get_within, get_or_from_slice_get}
use Rattle.std.proofs.lemmas.Bool.{and_parts}
use Rattle.dlk_tree.specs.declared.op.Sym.{Sym}
use Rattle.dlk_tree.specs.declared.op.Kind.{Kind}
use Rattle.dlk_tree.specs.declared.op.Kind.TheVariants.{Func, UnitFunc, Pred, UnitPred, Quant, Prog, Ode}
use Rattle.dlk_tree.specs.declared.op.Sort.{Sort}
use Rattle.dlk_tree.specs.declared.op.Sort.TheVariants.{Term, Formula, Program}
use Rattle.dlk_tree.specs.declared.op.Op.{Op}
use Rattle.dlk_tree.specs.declared.op.Op.TheVariants as Op'
use Rattle.dlk_tree.specs.Tests.{kind_rank, sort_eq}
use Rattle.dlk_tree.specs.Table.{kind_row, sort_of, is_sym, is_sym_of, Fits}
use Rattle.dlk_tree.specs.Trees.{Tree, node, Forest, no_kids, kid, trees_in, sort, sorts, WellMade, AllWellMade}
use Rattle.dlk_tree.specs.Statics.{all}
use Rattle.dlk_tree.specs.Occurs.{is_hole}
use Rattle.dlk_calculus.specs.Kids.{first}
use Rattle.dlk_calculus.specs.Captures.{Stays}
use Rattle.dlk_calculus.specs.Plug.{PlugAt, Plug, PlugAll, filled, filled_all}
use Rattle.dlk_calculus.specs.Pairs.{Pair, replacement, is_ode, is_system_without_domain, is_of_kind, IsWellFormed}
use Rattle.dlk_calculus.specs.Subst.{IsAdmissible, Replaced, SubstAt, Subst, SubstAll}
use Rattle.dlk_calculus.proofs.WellFormed.{replacement_of_kind}

-- ---- plugging

-- each argument is a term
abbrev pub AreTerms : List Tree → Type 0
AreTerms args = All (λ (a : Tree). sort a ≡ Term) args

-- what holds of each argument holds of the one that is found
pub argument_has : (P : Tree → Type 0) (args : List Tree) (n : ℕ) (a : Tree) → All P args → slice_get args n ≡ Some a → P a
argument_has P args n a all e = subst P (get_or_from_slice_get args n a a e) (all n a (slice_get_within args n a e))

pub plug_at_sort : (args : List Tree) (op : Op) (old new : Forest) (t : Tree) → AreTerms args → PlugAt args op old new t → sort t ≡ sort_of op
plug_at_sort args (Op'.Dot n) old new t terms p = argument_has (λ (a : Tree). sort a ≡ Term) args n t terms p
plug_at_sort args _ old new t terms p = ap sort p.1

pub plug_sort : (args : List Tree) (r t : Tree) → AreTerms args → Plug args r t → sort t ≡ sort r
plug_sort args (node op kids) t terms p = plug_at_sort args op kids p.0 t terms p.2

pub plug_sorts : (args : List Tree) (rs ts : Forest) → AreTerms args → PlugAll args rs ts → sorts ts ≡ sorts rs
plug_sorts args no_kids no_kids terms p = refl
plug_sorts args no_kids (kid t ts) terms p = absurd p
plug_sorts args (kid r rs) no_kids terms p = absurd p
plug_sorts args (kid r rs) (kid t ts) terms p =
    let a = plug_sort args r t terms p.0 in
    let b = plug_sorts args rs ts terms p.1 in
    λ i. a i ∷ b i

-- ---- filling

pub hole_only : (op : Op) → IsTrue (is_hole op) → op ≡ Op'.Hole
hole_only Op'.Hole e = refl
hole_only _ e = cc

choice_sort : (b : Bool) (f t : Tree) → (b ≡ true → sort f ≡ sort t) → sort (cond b f t) ≡ sort t
choice_sort true f t h = h refl
choice_sort false f t h = refl

pub fill_sort : (f r : Tree) → sort f ≡ Formula → sort (filled f r) ≡ sort r
fill_sort f (node op kids) s = choice_sort (is_hole op) f (node op (filled_all f kids)) (λ e. s ∙ ap sort_of (sym (hole_only op e)))

pub fill_sorts : (f : Tree) (rs : Forest) → sort f ≡ Formula → sorts (filled_all f rs) ≡ sorts rs
fill_sorts f no_kids s = refl
fill_sorts f (kid r rs) s =
    let a = fill_sort f r s in
    let b = fill_sorts f rs s in
    λ i. a i ∷ b i

-- ---- replacements

same_sort : (s r : Sort) → IsTrue (sort_eq s r) → s ≡ r
same_sort Term Term e = refl
same_sort Formula Formula e = refl
same_sort Program Program e = refl
same_sort _ _ e = cc

pub of_kind_sort : (k : Kind) (r : Tree) → IsTrue (is_of_kind k r) → sort r ≡ (kind_row k).sort
of_kind_sort k r e = same_sort (sort r) (kind_row k).sort (and_parts (not (is_ode k) || is_system_without_domain r) (sort_eq (sort r) (kind_row k).sort) e).1

pub kind_of_rank : (k l : Kind) → (kind_rank k == kind_rank l) ≡ true → k ≡ l
kind_of_rank Func Func e = refl
kind_of_rank UnitFunc UnitFunc e = refl
kind_of_rank Pred Pred e = refl
kind_of_rank UnitPred UnitPred e = refl
kind_of_rank Quant Quant e = refl
kind_of_rank Prog Prog e = refl
kind_of_rank Ode Ode e = refl
kind_of_rank _ _ e = cc

-- what replaces a symbol of the kind is of the kind's sort
pub replacement_sort : (pairs : List Pair) (k : Kind) (s : Sym) (r : Tree) → IsWellFormed pairs → IsTrue (is_sym_of k s) → replacement pairs s ≡ Some r
    → sort r ≡ (kind_row k).sort
replacement_sort pairs k s r well is found =
    let kind = kind_of_rank s.kind k (and_parts (kind_rank s.kind == kind_rank k) (is_sym s) is).0 in
    of_kind_sort s.kind r (replacement_of_kind pairs s r well found) ∙ ap (λ j. (kind_row j).sort) kind

-- ---- kids

abbrev pub head : List Sort → Sort
head [] = Program
head (s ∷ ss) = s

abbrev pub tail : List Sort → List Sort
tail [] = []
tail (s ∷ ss) = ss

-- what fits over kids fits over others of the same sorts
pub fits_still : (op : Op) (old new : Forest) → Fits op (sorts old) → sorts new ≡ sorts old → Fits op (sorts new)
fits_still op old new fits e = record { kids_fit = e ∙ fits.kids_fit; parts_fit = fits.parts_fit }

-- kids that are terms
pub terms_replicated : (kids : Forest) (n : ℕ) → sorts kids ≡ replicate n Term → AreTerms (trees_in kids)
terms_replicated no_kids n e = All-nil (λ (a : Tree). sort a ≡ Term)
terms_replicated (kid t ts) zero e = cc
terms_replicated (kid t ts) (suc n) e = All-cons (λ (a : Tree). sort a ≡ Term) t (trees_in ts) (ap head e) (terms_replicated ts n (ap tail e))

pub first_sort : (kids : Forest) (s : Sort) → sorts kids ≡ s ∷ [] → sort (first kids) ≡ s
first_sort no_kids s e = cc
first_sort (kid t ts) s e = ap head e

-- ---- substitution

module _ (pairs : List Pair) (well : IsWellFormed pairs) where
  -- a replacement or the operator itself
  replaced_sort : (o : Option Tree) (s : Sort) (op : Op) (old new : Forest) (t : Tree) (With : Tree → Type 0) → ((r : Tree) → o ≡ Some r → With r → sort t ≡ s)
      → sort_of op ≡ s → Replaced o With (Stays (IsAdmissible pairs) op old new t) → sort t ≡ s
  replaced_sort (Some r) s op old new t With h e p = h r refl p
  replaced_sort None s op old new t With h e p = ap sort p.1 ∙ e

  given_sort : (k : Kind) (s : Sym) (op : Op) (old new : Forest) (t : Tree) → IsTrue (is_sym_of k s) → sort_of op ≡ (kind_row k).sort
      → Replaced (replacement pairs s) (λ r. t ≡ r) (Stays (IsAdmissible pairs) op old new t) → sort t ≡ (kind_row k).sort
  given_sort k s op old new t is e p =
      replaced_sort (replacement pairs s) (kind_row k).sort op old new t (λ r. t ≡ r) (λ r found h. ap sort h ∙ replacement_sort pairs k s r well is found) e p

  plugged_sort : (k : Kind) (s : Sym) (op : Op) (old new : Forest) (t : Tree) → IsTrue (is_sym_of k s) → sort_of op ≡ (kind_row k).sort
      → AreTerms (trees_in new) → Replaced (replacement pairs s) (λ r. Plug (trees_in new) r t) (Stays (IsAdmissible pairs) op old new t) →
      sort t ≡ (kind_row k).sort
  plugged_sort k s op old new t is e terms p =
      replaced_sort (replacement pairs s) (kind_row k).sort op old new t (λ r. Plug (trees_in new) r t)
      (λ r found h. plug_sort (trees_in new) r t terms h ∙ replacement_sort pairs k s r well is found) e p

  filled_sort : (s : Sym) (op : Op) (old new : Forest) (t : Tree) → IsTrue (is_sym_of Quant s) → sort_of op ≡ Formula → sort (first new) ≡ Formula
      → Replaced (replacement pairs s) (λ r. IsAdmissible pairs all old × (t ≡ filled (first new) r)) (Stays (IsAdmissible pairs) op old new t) →
      sort t ≡ Formula
  filled_sort s op old new t is e f p =
      replaced_sort (replacement pairs s) Formula op old new t (λ r. IsAdmissible pairs all old × (t ≡ filled (first new) r))
      (λ r found h. ap sort h.1 ∙ fill_sort (first new) r f ∙ replacement_sort pairs Quant s r well is found) e p

  -- an operator's result over new kids that it fits
  pub subst_at_sort : (op : Op) (old new : Forest) (t : Tree) → Fits op (sorts new) → SubstAt pairs op old new t → sort t ≡ sort_of op
  subst_at_sort (Op'.UnitFun s) old new t fits p = given_sort UnitFunc s (Op'.UnitFun s) old new t fits.parts_fit refl p
  subst_at_sort (Op'.UnitPred s) old new t fits p = given_sort UnitPred s (Op'.UnitPred s) old new t fits.parts_fit refl p
  subst_at_sort (Op'.Const s) old new t fits p = given_sort Prog s (Op'.Const s) old new t fits.parts_fit refl p
  subst_at_sort (Op'.Apply s) old new t fits p = plugged_sort Func s (Op'.Apply s) old new t fits.parts_fit refl (terms_replicated new s.arity fits.kids_fit) p
  subst_at_sort (Op'.Holds s) old new t fits p = plugged_sort Pred s (Op'.Holds s) old new t fits.parts_fit refl (terms_replicated new s.arity fits.kids_fit) p
  subst_at_sort (Op'.Predicational s) old new t fits p =
      filled_sort s (Op'.Predicational s) old new t fits.parts_fit refl (first_sort new Formula fits.kids_fit) p
  subst_at_sort _ old new t fits p = ap sort p.1

  mutual
    pub subst_sort : (e t : Tree) → WellMade e → Subst pairs e t → sort t ≡ sort e
    subst_sort (node op kids) t made p = subst_at_sort op kids p.0 t (fits_still op kids p.0 made.0 (subst_sorts kids p.0 made.1 p.1)) p.2

    pub subst_sorts : (es new : Forest) → AllWellMade es → SubstAll pairs es new → sorts new ≡ sorts es
    subst_sorts no_kids no_kids made p = refl
    subst_sorts no_kids (kid t ts) made p = absurd p
    subst_sorts (kid e es) no_kids made p = absurd p
    subst_sorts (kid e es) (kid t ts) made p =
        let a = subst_sort e t made.0 p.0 in
        let b = subst_sorts es ts made.1 p.1 in
        λ i. a i ∷ b i
