-- Pairs whose ids are known stand for the same when the store grows.
use Rattle.std.proofs.Common.{◌≡◌, List, [], ◌∷◌, refl}
use Rattle.std.proofs.lemmas.List.Elements.{All-head, All-tail}
use Rattle.dlk_tree.specs.Trees.{Tree}
use Rattle.dlk_store.specs.Stores.{IsId, Keeps}
use Rattle.dlk_sequent.specs.declared.subst.Pair.{Pair}
use Rattle.dlk_sequent.specs.Substitutions.{pairs_at, AreKnownPairs}

module _ {old new : List Tree} (keeps : Keeps old new) where
  pub pairs_at-kept : (pairs : List Pair) → AreKnownPairs old pairs → pairs_at new pairs ≡ pairs_at old pairs
  pairs_at-kept [] known = refl
  pairs_at-kept (p ∷ pairs) known =
      let same = keeps.same p.by (All-head (λ (q : Pair). IsId old q.by) p pairs known) in
      let rest = pairs_at-kept pairs (All-tail (λ (q : Pair). IsId old q.by) p pairs known) in
      λ i. record { sym = p.sym; by = same i } ∷ rest i
