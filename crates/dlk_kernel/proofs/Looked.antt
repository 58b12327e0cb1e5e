-- How many nodes a substitution looks at in the formulas of a row, one after another.
use Rattle.std.proofs.Common.{◌≡◌, ℕ, ◌+◌, ◌*◌, ◌<◌, ◌≤◌, Some, List, length, map, take, get_or, sym, ap, subst, ◌∙◌, arith}
use Rattle.std.specs.List.{sum_by, All}
use Rattle.std.proofs.lemmas.List.{take-map, get_or-map, length-map}
use Rattle.std.proofs.lemmas.List.Sums.{sum_by_more, sum_by-take-le}
use Rattle.dlk_tree.specs.Trees.{Tree}
use Rattle.dlk_calculus.specs.Places.{at}
use Rattle.dlk_calculus.specs.Steps.{Substitute}
use Rattle.dlk_calculus.proofs.PlaceLaws.{At-map}
use Rattle.dlk_store.specs.declared.Id.{Id}
use Rattle.dlk_store.specs.Stores.{IsId, tree, Keeps}
use Rattle.dlk_sequent.specs.declared.sequent.Sequent.{Sequent}
use Rattle.dlk_sequent.specs.declared.subst.Pair.{Pair}
use Rattle.dlk_sequent.specs.Sequents.{sequent_at, IsKnown}
use Rattle.dlk_sequent.specs.Substitutions.{pair_at, pairs_at, AreKnownPairs}
use Rattle.dlk_sequent.proofs.Kept.{trees-kept, sequent-kept, sequents-kept}
use Rattle.dlk_sequent.specs.Growth.{pairs_at-kept}
use Rattle.dlk_memo.specs.Looks.{most_looks}
use Rattle.dlk_kernel.specs.declared.row.Row.{Row}
use Rattle.dlk_kernel.specs.Kernel.{provable_at, provables_at, IsKnownRow}
use Rattle.dlk_kernel.specs.Looks.{sequent_looks, provable_looks, fact_looks, LooksAtFew}

-- counted over what the items stand for
module _ {X T : Type 0} (f : T → ℕ) (stands : X → T) (items : List X) where
  next_counts : (n : ℕ) (d : X) → n < length items →
      sum_by f (map stands (take (n + 1) items)) ≡ sum_by f (map stands (take n items)) + f (stands (get_or items n d))
  next_counts n d lt =
      ap (sum_by f) (sym (take-map stands (n + 1) items))
      ∙ sum_by_more f (map stands items) n (stands d) (rw length-map lt)
      ∙ (λ i. sum_by f (take-map stands n items i) + f (get_or-map stands items n d (stands d) lt i))

  pub front_counts : (n : ℕ) → sum_by f (map stands (take n items)) ≤ sum_by f (map stands items)
  front_counts n = subst (λ l. sum_by f l ≤ sum_by f (map stands items)) (take-map stands n items) (sum_by-take-le f (map stands items) n)

  module _ (from here next n : ℕ) (d : X) (lt : n < length items) (so_far : here ≤ from + sum_by f (map stands (take n items)))
      (then : next ≤ here + f (stands (get_or items n d))) where
    pub one_more_looked : next ≤ from + sum_by f (map stands (take (n + 1) items))
    one_more_looked = omega (arith, next_counts n d lt, so_far, then)

    -- where it stops there
    pub stopped_looked : next ≤ from + sum_by f (map stands items)
    stopped_looked = omega (arith, one_more_looked, front_counts (n + 1))

-- over a store that has grown
module _ {old now : List Tree} (keeps : Keeps old now) (pairs : List Pair) (are_known : AreKnownPairs old pairs) where
  pub looks_kept : (id : Id) → IsId old id → most_looks (pairs_at now pairs) (tree now id) ≡ most_looks (pairs_at old pairs) (tree old id)
  looks_kept id known = let ps = pairs_at-kept keeps pairs are_known in let t = keeps.same id known in λ i. most_looks (ps i) (t i)

  pub side_looks_kept : (ids : List Id) → All (IsId old) ids →
      sum_by (most_looks (pairs_at now pairs)) (map (tree now) ids) ≡ sum_by (most_looks (pairs_at old pairs)) (map (tree old) ids)
  side_looks_kept ids known = let ps = pairs_at-kept keeps pairs are_known in let ts = trees-kept keeps ids known in λ i. sum_by (most_looks (ps i)) (ts i)

  pub sequent_looks_kept : (s : Sequent) → IsKnown old s →
      sequent_looks (pairs_at now pairs) (sequent_at now s) ≡ sequent_looks (pairs_at old pairs) (sequent_at old s)
  sequent_looks_kept s known = let ps = pairs_at-kept keeps pairs are_known in let t = sequent-kept keeps s known in λ i. sequent_looks (ps i) (t i)

  pub sequents_looks_kept : (all : List Sequent) → All (IsKnown old) all →
      sum_by (sequent_looks (pairs_at now pairs)) (map (sequent_at now) all) ≡ sum_by (sequent_looks (pairs_at old pairs)) (map (sequent_at old) all)
  sequents_looks_kept all known = let ps = pairs_at-kept keeps pairs are_known in let ts = sequents-kept keeps all known in
      λ i. sum_by (sequent_looks (ps i)) (ts i)

-- one formula or one sequent more was looked at, in a store that has grown so far
module _ {old now : List Tree} (keeps : Keeps old now) (pairs : List Pair) (are_known : AreKnownPairs old pairs) (from here next n : ℕ) where
  module _ (ids : List Id) (d : Id) (lt : n < length ids) (known : IsId old (get_or ids n d))
      (so_far : here ≤ from + sum_by (most_looks (pairs_at old pairs)) (map (tree old) (take n ids)))
      (then : next ≤ here + most_looks (pairs_at now pairs) (tree now (get_or ids n d))) where
    here_looked : next ≤ here + most_looks (pairs_at old pairs) (tree old (get_or ids n d))
    here_looked = subst (λ k. next ≤ here + k) (looks_kept keeps pairs are_known (get_or ids n d) known) then

    pub id_looked : next ≤ from + sum_by (most_looks (pairs_at old pairs)) (map (tree old) (take (n + 1) ids))
    id_looked = one_more_looked (most_looks (pairs_at old pairs)) (tree old) ids from here next n d lt so_far here_looked

    pub ids_stopped : next ≤ from + sum_by (most_looks (pairs_at old pairs)) (map (tree old) ids)
    ids_stopped = stopped_looked (most_looks (pairs_at old pairs)) (tree old) ids from here next n d lt so_far here_looked

  module _ (all : List Sequent) (d : Sequent) (lt : n < length all) (known : IsKnown old (get_or all n d))
      (so_far : here ≤ from + sum_by (sequent_looks (pairs_at old pairs)) (map (sequent_at old) (take n all)))
      (then : next ≤ here + sequent_looks (pairs_at now pairs) (sequent_at now (get_or all n d))) where
    there_looked : next ≤ here + sequent_looks (pairs_at old pairs) (sequent_at old (get_or all n d))
    there_looked = subst (λ k. next ≤ here + k) (sequent_looks_kept keeps pairs are_known (get_or all n d) known) then

    pub sequent_looked : next ≤ from + sum_by (sequent_looks (pairs_at old pairs)) (map (sequent_at old) (take (n + 1) all))
    sequent_looked = one_more_looked (sequent_looks (pairs_at old pairs)) (sequent_at old) all from here next n d lt so_far there_looked

    pub sequents_stopped : next ≤ from + sum_by (sequent_looks (pairs_at old pairs)) (map (sequent_at old) all)
    sequents_stopped = stopped_looked (sequent_looks (pairs_at old pairs)) (sequent_at old) all from here next n d lt so_far there_looked

-- one part after another, over a store that grew with the first
module _ {old now : List Tree} (keeps : Keeps old now) (pairs : List Pair) (are_known : AreKnownPairs old pairs) (from here next : ℕ) where
  pub both_looked : (s : Sequent) → IsKnown old s → here ≤ from + sum_by (most_looks (pairs_at old pairs)) (map (tree old) s.ante) →
      next ≤ here + sum_by (most_looks (pairs_at now pairs)) (map (tree now) s.succ) → next ≤ from + sequent_looks (pairs_at old pairs) (sequent_at old s)
  both_looked s known first then = omega (arith, first, then, side_looks_kept keeps pairs are_known s.succ known.succ)

  pub row_looked : (row : Row) → IsKnownRow old row → here ≤ from + sequent_looks (pairs_at old pairs) (sequent_at old row.conclusion) →
      next ≤ here + sum_by (sequent_looks (pairs_at now pairs)) (map (sequent_at now) row.goals) →
      next ≤ from + provable_looks (pairs_at old pairs) (provable_at old row)
  row_looked row known first then = omega (arith, first, then, sequents_looks_kept keeps pairs are_known row.goals known.goals)

-- a substitution in a fact: its pairs are looked at first
module _ (trees : List Tree) (rows : List Row) (fact : ℕ) (pairs : List Pair) (old : ℕ) where
  pub unlooked : (new : ℕ) → new ≡ old → LooksAtFew (provables_at trees rows) (Substitute fact (pairs_at trees pairs)) old new
  unlooked new is = omega (arith, is)

  pub pairs_looked : (new : ℕ) → new ≤ old + 2 * length pairs → LooksAtFew (provables_at trees rows) (Substitute fact (pairs_at trees pairs)) old new
  pairs_looked new few = omega (arith, few, length-map pairs (pair_at trees))

  pub fact_looked : (row : Row) → at rows fact ≡ Some row → (checked : List Pair) → checked ≡ pairs → (here new : ℕ) → here ≤ old + 2 * length pairs →
      new ≤ here + provable_looks (pairs_at trees checked) (provable_at trees row) →
      LooksAtFew (provables_at trees rows) (Substitute fact (pairs_at trees pairs)) old new
  fact_looked row there checked same here new first then =
      let these : new ≤ here + provable_looks (pairs_at trees pairs) (provable_at trees row) =
      subst (λ ps. new ≤ here + provable_looks (pairs_at trees ps) (provable_at trees row)) same then in
      let found : fact_looks (pairs_at trees pairs) (at (provables_at trees rows) fact) ≡ provable_looks (pairs_at trees pairs) (provable_at trees row) =
      ap (fact_looks (pairs_at trees pairs)) (At-map (provable_at trees) rows fact row there) in
      omega (arith, first, these, found, length-map pairs (pair_at trees))
