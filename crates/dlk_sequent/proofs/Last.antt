-- The last of a node's kids, and what it says.
use Rattle.std.proofs.Common.{◌≡◌, ◌∙◌, refl, true, suc, ◌-◌, List, [], ◌∷◌, length, Some, sym, ap, arith}
use Rattle.std.specs.List.{slice_get}
use Rattle.dlk_tree.specs.declared.op.Op.{Op}
use Rattle.dlk_tree.specs.declared.op.Op.TheVariants as Op'
use Rattle.dlk_tree.specs.Trees.{Tree}
use Rattle.dlk_store.specs.declared.Id.{Id}
use Rattle.dlk_store.specs.Stores.{tree, kid_trees}
use Rattle.dlk_calculus.specs.Kids.{last}
use Rattle.dlk_calculus.specs.Pairs.{is_true}

pub last_kid : (trees : List Tree) (ks : List Id) (k : Id) → slice_get ks (length ks - 1) ≡ Some k → last (kid_trees trees ks) ≡ tree trees k
last_kid trees [] k e = cc
last_kid trees (j ∷ []) k e = let same : j ≡ k = cc in ap (tree trees) same
last_kid trees (i ∷ j ∷ ks) k e =
    let shorter : length (i ∷ j ∷ ks) - 1 ≡ suc (length (j ∷ ks) - 1) = omega arith in
    last_kid trees (j ∷ ks) k (ap (slice_get (i ∷ j ∷ ks)) (sym shorter) ∙ e)

pub is_True : (op : Op) → is_true op ≡ true → op ≡ Op'.True
is_True Op'.True e = refl
is_True _ e = cc
