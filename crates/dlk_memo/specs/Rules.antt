-- When the rules of a substitution can be followed over a store, and the laws that they keep.
use Rattle.std.proofs.Common.{◌≡◌, refl, sym, ap, subst, ◌∙◌, List, length, arith}
use Rattle.std.specs.Prelude.{◌≤◌, All, if◌then◌else◌, Bool, nat_lt, ◌||◌}
use Rattle.std.specs.List.{list_any}
use Rattle.dlk_tree.specs.declared.op.Op.{Op}
use Rattle.dlk_tree.specs.declared.op.Op.TheVariants as Op'
use Rattle.dlk_tree.specs.Trees.{Tree, node, Forest, kid, sort, size, WellMade}
use Rattle.dlk_tree.specs.Occurs.{is_hole, occurs}
use Rattle.dlk_store.specs.declared.Id.{Id}
use Rattle.dlk_store.specs.Stores.{IsId, tree, Keeps}
use Rattle.dlk_store.specs.Rows.{GoesByRows}
use Rattle.dlk_calculus.specs.Pairs.{Pair as TreePair}
use Rattle.dlk_calculus.specs.Plug.{IsClear, Plug, PlugAt, filled, filled_all}
use Rattle.dlk_calculus.specs.Subst.{IsAdmissible, Subst}
use Rattle.dlk_sequent.specs.declared.subst.Pair.{Pair}
use Rattle.dlk_sequent.specs.Substitutions.{pairs_at, AreKnownPairs}
use Rattle.dlk_sequent.specs.Growth.{pairs_at-kept}
use Rattle.dlk_subst.specs.Results.{args_at}
use Rattle.dlk_subst.specs.Growth.{known_kept, pairs_kept}
use Rattle.dlk_subst.specs.Growth.{args_kept}
use Rattle.dlk_subst.specs.Rows.{SubstRow}
use Rattle.dlk_memo.specs.Binders.{AllowsBelow}

-- what is made of a well-made tree is of its sort
abbrev pub KeepsSort : (Tree → Tree → Type 0) → Type 0
KeepsSort Makes = (t u : Tree) → WellMade t → Makes t u → sort u ≡ sort t

-- ---- arguments

-- at most eight trees of the store that keep the sort of what they are plugged into, as terms do
pub record AreReadyArgs (trees : List Tree) (ids : List Id) : Type 0 where
  pub few : length ids ≤ 8
  pub known : All (IsId trees) ids
  pub keeps_sort : KeepsSort (Plug (args_at trees ids))

pub args_same : {old new : List Tree} → Keeps old new → (ids : List Id) → AreReadyArgs old ids → args_at new ids ≡ args_at old ids
args_same keeps ids ready = args_kept keeps ids ready.known

pub ready_args_kept : {old new : List Tree} → Keeps old new → (ids : List Id) → AreReadyArgs old ids → AreReadyArgs new ids
ready_args_kept keeps ids ready = record {
  few = ready.few;
  known = known_kept keeps ids ready.known;
  keeps_sort = subst (λ args. KeepsSort (Plug args)) (sym (args_same keeps ids ready)) ready.keeps_sort;
}

-- what is plugged in below a quantifier captures nothing
pub plug_allows : (args : List Tree) (op : Op) (old new : Forest) (t : Tree) → PlugAt args op old new t → AllowsBelow (IsClear args) op old
plug_allows args (Op'.Forall x) old new t p = p.0
plug_allows args (Op'.Exists x) old new t p = p.0
plug_allows args _ old new t p = tt

-- ---- a formula

-- the tree, the kids, and the operator over old kids, of which the new ones were made, with the formula in place of `_`
abbrev pub Fills : Tree → Tree → Tree → Type 0
Fills f t u = u ≡ filled f t

abbrev pub FillsAll : Tree → Forest → Forest → Type 0
FillsAll f ts us = us ≡ filled_all f ts

abbrev pub FillsAt : Tree → Op → Forest → Forest → Tree → Type 0
FillsAt f op old new t = t ≡ if is_hole op then f else node op new

kid_parts : (f t : Tree) (ts us : Forest) → FillsAll f (kid t ts) us → (u : Tree) × (vs : Forest) × Fills f t u × FillsAll f ts vs
kid_parts f t ts us e = (filled f t, filled_all f ts, refl, refl)

pub filling : GoesByRows Fills FillsAll FillsAt
filling = record {
  none = λ f. refl;
  one = λ f t u ts us a b. λ i. kid (a i) (b i);
  parts = kid_parts;
  same = λ f ts us vs a b. a ∙ sym b;
  up = λ f op ts us u all row. row ∙ ap (λ vs. if is_hole op then f else node op vs) all;
  down = λ f op ts u p. (filled_all f ts, refl, p);
}

-- a tree of the store that keeps the sort of what it fills, as a formula does
pub record IsReadyFormula (trees : List Tree) (id : Id) : Type 0 where
  pub known : IsId trees id
  pub keeps_sort : KeepsSort (Fills (tree trees id))

pub formula_same : {old new : List Tree} → Keeps old new → (id : Id) → IsReadyFormula old id → tree new id ≡ tree old id
formula_same keeps id ready = keeps.same id ready.known

pub ready_formula_kept : {old new : List Tree} → Keeps old new → (id : Id) → IsReadyFormula old id → IsReadyFormula new id
ready_formula_kept keeps id ready = record {
  known = omega (arith, ready.known, keeps.known);
  keeps_sort = subst (λ f. KeepsSort (Fills f)) (sym (formula_same keeps id ready)) ready.keeps_sort;
}

-- ---- pairs

-- pairs of the store that keep the sort, as well-formed ones do
pub record AreReadyPairs (trees : List Tree) (pairs : List Pair) : Type 0 where
  pub known : AreKnownPairs trees pairs
  pub keeps_sort : KeepsSort (Subst (pairs_at trees pairs))

pub pairs_same : {old new : List Tree} → Keeps old new → (pairs : List Pair) → AreReadyPairs old pairs → pairs_at new pairs ≡ pairs_at old pairs
pairs_same keeps pairs ready = pairs_at-kept keeps pairs ready.known

pub ready_pairs_kept : {old new : List Tree} → Keeps old new → (pairs : List Pair) → AreReadyPairs old pairs → AreReadyPairs new pairs
ready_pairs_kept keeps pairs ready = record {
  known = pairs_kept keeps pairs ready.known;
  keeps_sort = subst (λ there. KeepsSort (Subst there)) (sym (pairs_same keeps pairs ready)) ready.keeps_sort;
}

-- what is substituted below a quantifier is admissible for its variable
pub subst_allows : (pairs : List TreePair) (op : Op) (old new : Forest) (t : Tree) → SubstRow pairs op old new t → AllowsBelow (IsAdmissible pairs) op old
subst_allows pairs (Op'.Forall x) old new t p = p.0.0
subst_allows pairs (Op'.Exists x) old new t p = p.0.0
subst_allows pairs _ old new t p = tt

-- the symbol of a pair occurs in the tree
abbrev pub any_occurs : List TreePair → Tree → Bool
any_occurs pairs t = list_any (λ (p : TreePair). occurs p.sym t) pairs

-- or it isn't asked for: of more than 4 pairs, and in trees of fewer than 16 nodes
abbrev pub may_occur : List TreePair → Tree → Bool
may_occur pairs t = nat_lt 4 (length pairs) || nat_lt (size t) 16 || any_occurs pairs t
