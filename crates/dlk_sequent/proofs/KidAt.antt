-- The kid of a number, by the ids of a node's kids.
use Rattle.std.proofs.Common.{◌≡◌, refl, sym, ap, subst, ◌∙◌, ℕ, zero, suc, ◌<◌, List, [], ◌∷◌, length, Option, None, Some, slice_get, slice_set, arith}
use Rattle.std.specs.Prelude.{All}
use Rattle.std.proofs.lemmas.Option.{slice_get_within, get_or_from_slice_get}
use Rattle.dlk_tree.specs.declared.op.Sort.{Sort}
use Rattle.dlk_tree.specs.declared.op.Op.{Op}
use Rattle.dlk_tree.specs.Trees.{Tree, node, kid, sort, sorts}
use Rattle.dlk_store.specs.declared.Id.{Id}
use Rattle.dlk_store.specs.Stores.{IsId, tree, kid_trees, sorts_at}
use Rattle.dlk_store.specs.Kids.{sorts-kid_trees}
use Rattle.dlk_calculus.specs.Paths.{subtree, subtree_in, put_at, put_in}
use Rattle.dlk_calculus.proofs.PathLaws.{subtree_nil, subtree_later, put_nil, put_later, put_sorts}
use Rattle.dlk_sequent.specs.Spines.{LeadsTo, HasSort}

module _ (trees : List Tree) where
  kid_there : (ks : List Id) (n : ℕ) (k : Id) → slice_get ks n ≡ Some k → subtree_in (kid_trees trees ks) n [] ≡ Some (tree trees k)
  kid_there [] n k e = absurd (cc e)
  kid_there (j ∷ ks) zero k e = subtree_nil (tree trees j) ∙ ap (λ o. option_tree o) e
    where
      option_tree : Option Id → Option Tree
      option_tree None = None
      option_tree (Some i) = Some (tree trees i)
  kid_there (j ∷ ks) (suc n) k e = subtree_later (tree trees j) (kid_trees trees ks) n [] ∙ kid_there ks n k e

  kid_missing : (ks : List Id) (n : ℕ) → slice_get ks n ≡ None → subtree_in (kid_trees trees ks) n [] ≡ None
  kid_missing [] n e = refl
  kid_missing (j ∷ ks) zero e = absurd (cc e)
  kid_missing (j ∷ ks) (suc n) e = subtree_later (tree trees j) (kid_trees trees ks) n [] ∙ kid_missing ks n e

  pub leads_to_kid : (id : Id) (op : Op) (ks : List Id) (n : ℕ) (k : Id) → tree trees id ≡ node op (kid_trees trees ks) → All (IsId trees) ks
      → slice_get ks n ≡ Some k → LeadsTo trees id (n ∷ []) k
  leads_to_kid id op ks n k is known e = record {
    known = subst (IsId trees) (get_or_from_slice_get ks n k k e) (known n k (slice_get_within ks n k e));
    stands = ap (λ t. subtree t (n ∷ [])) is ∙ kid_there ks n k e;
  }

  pub leads_nowhere : (id : Id) (op : Op) (ks : List Id) (n : ℕ) → tree trees id ≡ node op (kid_trees trees ks) → slice_get ks n ≡ None
      → subtree (tree trees id) (n ∷ []) ≡ None
  leads_nowhere id op ks n is e = ap (λ t. subtree t (n ∷ [])) is ∙ kid_missing ks n e

  -- ---- another kid

  put_kid : (ks : List Id) (n : ℕ) (new : Id) → put_in (kid_trees trees ks) n [] (tree trees new) ≡ kid_trees trees (slice_set ks n new)
  put_kid [] n new = refl
  put_kid (j ∷ ks) zero new = ap (λ t. kid t (kid_trees trees ks)) (put_nil (tree trees j) (tree trees new))
  put_kid (j ∷ ks) (suc n) new = put_later (tree trees j) (kid_trees trees ks) n [] (tree trees new) ∙ ap (kid (tree trees j)) (put_kid ks n new)

  there_is : (ks : List Id) (n : ℕ) (s : Sort) → HasSort s (subtree_in (kid_trees trees ks) n []) → n < length ks
  there_is [] n s h = absurd h
  there_is (j ∷ ks) zero s h = omega arith
  there_is (j ∷ ks) (suc n) s h =
      let less = there_is ks n s (subst (HasSort s) (subtree_later (tree trees j) (kid_trees trees ks) n []) h) in omega (arith, less)

  has_sort : (s : Sort) (o : Option Tree) → HasSort s o → (t : Tree) × (o ≡ Some t) × (s ≡ sort t)
  has_sort s None h = absurd h
  has_sort s (Some t) h = (t, refl, sym h)

  -- a node with a kid of the new one's sort
  module _ (id : Id) (op : Op) (ks : List Id) (n : ℕ) (new : Id) (is : tree trees id ≡ node op (kid_trees trees ks))
      (fits : HasSort (sort (tree trees new)) (subtree (tree trees id) (n ∷ []))) where
    here : HasSort (sort (tree trees new)) (subtree_in (kid_trees trees ks) n [])
    here = subst (λ t. HasSort (sort (tree trees new)) (subtree t (n ∷ []))) is fits

    pub is_kid : n < length ks
    is_kid = there_is ks n (sort (tree trees new)) here

    pub same_sorts : sorts_at trees (slice_set ks n new) ≡ sorts_at trees ks
    same_sorts =
        let s = has_sort (sort (tree trees new)) (subtree_in (kid_trees trees ks) n []) here in
        sym (sorts-kid_trees trees (slice_set ks n new)) ∙ ap sorts (sym (put_kid ks n new))
        ∙ put_sorts s.0 (tree trees new) s.2 (kid_trees trees ks) n [] s.1 ∙ sorts-kid_trees trees ks

    pub put_is : put_at (tree trees id) (n ∷ []) (tree trees new) ≡ node op (kid_trees trees (slice_set ks n new))
    put_is = ap (λ t. put_at t (n ∷ []) (tree trees new)) is ∙ ap (node op) (put_kid ks n new)
