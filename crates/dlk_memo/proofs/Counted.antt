-- A table whose ids are of subtrees has at most as many entries as there are unlike subtrees.
use Rattle.std.proofs.Common.{◌≡◌, ℕ, ◌+◌, ◌*◌, ◌<◌, ◌≤◌, ◌⊎◌, inl, inr, Bool, Option, None, Some, List, [], length, get_or, refl, sym, ap, subst}
use Rattle.std.proofs.Common.{◌∙◌, true≢false, arith, Contains, is_some}
use Rattle.std.specs.Prelude.{IsSome, IsTrue}
use Rattle.std.specs.Map.{keys_of}
use Rattle.std.proofs.Math.Nat.{mul-le-mul_right}
use Rattle.std.proofs.lemmas.Map.Views.{IsSome-lookup_from_Contains}
use Rattle.std.proofs.lemmas.Map.Keys.{apart_from_distinct}
use Rattle.std.proofs.lemmas.Map.Entries.{length-keys_of}
use Rattle.std.proofs.lemmas.List.Elements.{Contains-get_or}
use Rattle.dlk_tree.specs.Trees.{Tree}
use Rattle.dlk_store.specs.declared.Id.{Id}
use Rattle.dlk_store.specs.contracts.IdEq.TheImpl.Laws.{laws-law}
use Rattle.dlk_store.specs.Stores.{IsId, tree, HasOneId}
use Rattle.dlk_subst.specs.Counts.{subtrees, distinct_count}
use Rattle.dlk_subst.proofs.Counted.{ids_few}
use Rattle.dlk_subst.specs.Looked.{same_id}
use Rattle.dlk_memo.specs.Tables.{Table, found, Spends}

-- a table that was empty before a tree was walked
module _ (unique : Bool) (price : ℕ) (root : Tree) (trees : List Tree) (old table : Table) (s0 s1 : ℕ) (empty : old ≡ [])
    (h : Spends unique price root trees old table s0 s1) where
  each_within : (i : ℕ) (d : Id) → i < length (keys_of table)
      → IsId trees (get_or (keys_of table) i d) × Contains (subtrees root) (tree trees (get_or (keys_of table) i d))
  each_within i d l = by (found table k) refl (IsSome-lookup_from_Contains laws-law k table (Contains-get_or (keys_of table) i d l))
    where
      k : Id
      k = get_or (keys_of table) i d

      none : IsSome (found old k) → ⊥
      none e = true≢false (sym (subst (λ t. IsSome (found t k)) empty e))

      within : IsSome (found old k) ⊎ (IsId trees k × Contains (subtrees root) (tree trees k)) → IsId trees k × Contains (subtrees root) (tree trees k)
      within (inl e) = absurd (none e)
      within (inr e) = e

      by : (o : Option (Option Id)) → found table k ≡ o → IsSome (found table k) → IsId trees k × Contains (subtrees root) (tree trees k)
      by None e some = absurd (true≢false (sym some ∙ ap is_some e))
      by (Some r) e some = within (h.entry k r e)

  pub spent_few : IsTrue unique → HasOneId trees → s1 ≤ s0 + distinct_count (subtrees root) * price
  spent_few u one =
      let few = ids_few trees one (keys_of table) (record { apart = λ i j d a b. apart_from_distinct same_id (keys_of table) i j d h.once a b })
      (subtrees root) each_within in
      let count : length table ≤ distinct_count (subtrees root) = omega (arith, few, length-keys_of table) in
      let up : length table * price ≤ distinct_count (subtrees root) * price = mul-le-mul_right price count in
      let none : length old * price ≡ 0 * price = ap (λ n. n * price) (ap length empty) in
      let paid = h.cost u in
      omega (arith, up, none, paid)
