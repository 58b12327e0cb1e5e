-- Terms, formulas and well-formed pairs can be followed. What a substitution makes at a node is well made, and what it costs.
use Rattle.std.proofs.Common.{◌≡◌, refl, ap, ◌∙◌, ◌≤◌, List, [], ◌∷◌, length, Bool, true, false, ◌||◌, nat_lt, Some, Result, Ok, Err}
use Rattle.std.proofs.lemmas.Bool.{or_parts}
use Rattle.std.proofs.lemmas.List.Elements.{All-nil, All-cons}
use Rattle.std.specs.Prelude.{All, IfOk}
use Rattle.dlk_tree.specs.declared.op.Op.{Op}
use Rattle.dlk_tree.specs.declared.op.Sort.TheVariants.{Formula}
use Rattle.dlk_tree.specs.Trees.{Tree, Forest, sort, size, WellMade}
use Rattle.dlk_store.specs.declared.Id.{Id}
use Rattle.dlk_store.specs.Stores.{IsId, tree}
use Rattle.dlk_tree.specs.Occurs.{occurs}
use Rattle.dlk_calculus.specs.Pairs.{Pair as TreePair, IsWellFormed}
use Rattle.dlk_calculus.specs.Subst.{SubstAt}
use Rattle.dlk_calculus.proofs.Sorts.{AreTerms, plug_sort, fill_sort, subst_sort}
use Rattle.dlk_sequent.specs.declared.subst.Pair.{Pair}
use Rattle.dlk_sequent.specs.Substitutions.{pairs_at, AreKnownPairs}
use Rattle.dlk_subst.specs.declared.pairs.Effect.{Effect}
use Rattle.dlk_subst.specs.Counts.{subtrees, replacement_subtrees, distinct_count}
use Rattle.dlk_subst.specs.Effects.{effect_of}
use Rattle.dlk_subst.specs.Results.{IsResult, args_at}
use Rattle.dlk_subst.specs.Rows.{SubstRow}
use Rattle.dlk_subst.proofs.Counted.{count_grows}
use Rattle.dlk_subst.proofs.Effects.{effect_id, effect_found}
use Rattle.dlk_subst.proofs.Looked.{found_within}
use Rattle.dlk_subst.proofs.Results.{stands_made}
use Rattle.dlk_memo.specs.Rules.{AreReadyArgs, IsReadyFormula, AreReadyPairs, any_occurs, may_occur}

pub args_ready : (trees : List Tree) (ids : List Id) → length ids ≤ 8 → All (IsId trees) ids → AreTerms (args_at trees ids) → AreReadyArgs trees ids
args_ready trees ids few known terms = record { few = few; known = known; keeps_sort = λ t u well p. plug_sort (args_at trees ids) t u terms p }

pub pairs_ready : (trees : List Tree) (pairs : List Pair) → AreKnownPairs trees pairs → IsWellFormed (pairs_at trees pairs) → AreReadyPairs trees pairs
pairs_ready trees pairs known well = record { known = known; keeps_sort = subst_sort (pairs_at trees pairs) well }

-- the replacement of an effect has no more subtrees than all of them
pub effect_cost : (trees : List Tree) (pairs : List Pair) (op : Op) (effect : Effect) (id : Id) → effect ≡ effect_of pairs op → effect_id effect ≡ Some id
    → distinct_count (subtrees (tree trees id)) ≤ distinct_count (replacement_subtrees (pairs_at trees pairs))
effect_cost trees pairs op effect id is e =
    let f = effect_found pairs op effect id is e in
    count_grows (subtrees (tree trees id)) (replacement_subtrees (pairs_at trees pairs)) (λ t h. found_within trees pairs f.0 id f.1 t h)

module _ (trees : List Tree) (pairs : List Pair) (op : Op) (old new : Forest) (now : List Tree) (made : All WellMade now) where
  pub row_holds : (id : Id) → IsResult (SubstAt (pairs_at trees pairs) op old new) now id → IsResult (SubstRow (pairs_at trees pairs) op old new) now id
  row_holds id h = record { result = h.result; is_related = (h.is_related, stands_made made h.stands); stands = h.stands }

  pub row_ok : {E : Type 0} (result : Result Id E) → IfOk result (IsResult (SubstAt (pairs_at trees pairs) op old new) now)
      → IfOk result (IsResult (SubstRow (pairs_at trees pairs) op old new) now)
  row_ok (Err e) ok = tt
  row_ok (Ok id) ok = row_holds id ok

-- ---- symbols that don't occur

all_lack : (t : Tree) (pairs : List TreePair) → any_occurs pairs t ≡ false → All (λ (p : TreePair). occurs p.sym t ≡ false) pairs
all_lack t [] e = All-nil (λ (p : TreePair). occurs p.sym t ≡ false)
all_lack t (p ∷ pairs) e =
    let both = or_parts _ _ e in
    All-cons (λ (q : TreePair). occurs q.sym t ≡ false) p pairs both.0 (all_lack t pairs both.1)

last_of : (a b c : Bool) → a || b || c ≡ false → c ≡ false
last_of a b false e = refl
last_of true true true e = e
last_of true false true e = e
last_of false true true e = e
last_of false false true e = e

pub none_occurs : (t : Tree) (pairs : List TreePair) → may_occur pairs t ≡ false → All (λ (p : TreePair). occurs p.sym t ≡ false) pairs
none_occurs t pairs e = all_lack t pairs (last_of (nat_lt 4 (length pairs)) (nat_lt (size t) 16) (any_occurs pairs t) e)
