-- Results in a store, and faults that are handed on.
use Rattle.std.proofs.Common.{◌≡◌, sym, ap, subst, ◌∙◌, List, Result, Err}
use Rattle.std.specs.Prelude.{All, IfOk}
use Rattle.std.specs.Result.{IsErrAnd}
use Rattle.std.proofs.lemmas.Result.{IfOk-weaker}
use Rattle.dlk_tree.specs.declared.op.Op.TheVariants.{True}
use Rattle.dlk_tree.specs.Trees.{Tree, node, no_kids, WellMade}
use Rattle.dlk_store.specs.Stores.{tree, StandsFor}
use Rattle.dlk_store.specs.declared.Id.{Id}
use Rattle.dlk_subst.specs.Results.{IsResult}

-- a fault that was handed on is that of the call
pub handed_on : {A B E : Type 0} (call : Result A E) (answer : Result B E) (f n : E)
    → call ≡ Err f → IsErrAnd answer (λ e. e ≡ f) → answer ≡ Err n → call ≡ Err n
handed_on call answer f n was same is = was ∙ ap Err (sym (subst (λ r. IsErrAnd r (λ e. e ≡ f)) is same))

-- the tree of an id of which this holds
pub holds_tree : {R : Tree → Type 0} {trees : List Tree} {id : Id} → IsResult R trees id → R (tree trees id)
holds_tree {R} h = subst R (sym h.stands.tree_is) h.is_related

-- what follows for each tree in the store follows for the result
pub result_weaker : {E : Type 0} (P Q : Tree → Type 0) (trees : List Tree) (result : Result Id E)
    → ((id : Id) (t : Tree) → StandsFor trees id t → P t → Q t) → IfOk result (IsResult P trees) → IfOk result (IsResult Q trees)
result_weaker P Q trees result follows ok =
    IfOk-weaker result (IsResult P trees) (IsResult Q trees)
    (λ id h. record { result = h.result; is_related = follows id h.result h.stands h.is_related; stands = h.stands }) ok

-- what a store's id stands for is well made
pub stands_made : {trees : List Tree} {id : Id} {t : Tree} → All WellMade trees → StandsFor trees id t → WellMade t
stands_made {id = id} made stands = subst WellMade stands.tree_is (made id.0 (node True no_kids) stands.known)
