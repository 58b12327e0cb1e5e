-- Kids one after the other.
use Rattle.std.proofs.Common.{◌≡◌, ℕ, zero, suc, ◌+◌, ◌<◌, ◌≤◌, List, [], ◌∷◌, length, get_or, drop, refl, sym, ap, ◌∙◌, add-one, arith, drop-cons}
use Rattle.std.proofs.Math.Seq.{drop-nil}
use Rattle.dlk_tree.specs.Table.{evolved}
use Rattle.dlk_tree.specs.Trees.{Tree, size_all}
use Rattle.dlk_tree.specs.declared.op.OdeItem.{OdeItem}
use Rattle.dlk_tree.specs.declared.op.OdeItem.TheVariants.{Evolve, Const}
use Rattle.dlk_store.specs.declared.Id.{Id}
use Rattle.dlk_store.specs.Stores.{kid_trees}
use Rattle.dlk_grammar.specs.Shown.{terms_behind}
use Rattle.dlk_print.specs.Kids.{texts_of}

-- what an item leaves of the kids
pub texts_behind : (trees : List Tree) (item : OdeItem) (ks : List Id) →
    terms_behind item (texts_of trees ks) ≡ texts_of trees (drop (length (evolved (item ∷ []))) ks)
texts_behind trees (Const s) ks = refl
texts_behind trees (Evolve x) [] = refl
texts_behind trees (Evolve x) (k ∷ ks) = refl

pub size_behind : (trees : List Tree) (n : ℕ) (ks : List Id) → size_all (kid_trees trees (drop n ks)) ≤ size_all (kid_trees trees ks)
size_behind trees zero ks = omega arith
size_behind trees (suc n) [] = omega arith
size_behind trees (suc n) (k ∷ ks) = omega (arith, size_behind trees n ks)

-- one item more, from place i on
pub evolved_drop : (items : List OdeItem) (ks left : List Id) (i : ℕ) (item : OdeItem) → item ≡ get_or items i item → i < length items →
    left ≡ drop (length (evolved (item ∷ []))) ks → drop (length (evolved (drop (i + 1) items))) left ≡ drop (length (evolved (drop i items))) ks
evolved_drop items ks left i item at h e =
    let here : drop i items ≡ item ∷ drop (suc i) items = drop-cons items i item h ∙ ap (λ it. it ∷ drop (suc i) items) (sym at) in
    rw (e, here, add-one) (by_item item (drop (suc i) items) ks)
  where
    by_item : (item : OdeItem) (items : List OdeItem) (ks : List Id) →
        drop (length (evolved items)) (drop (length (evolved (item ∷ []))) ks) ≡ drop (length (evolved (item ∷ items))) ks
    by_item (Const s) items ks = refl
    by_item (Evolve x) items [] = drop-nil (length (evolved items))
    by_item (Evolve x) items (k ∷ ks) = refl
