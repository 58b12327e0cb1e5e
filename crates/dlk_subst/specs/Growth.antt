-- Ids and pairs that are known stay so when the store grows, and arguments stand for the same.
use Rattle.std.proofs.Common.{◌≡◌, List, ap, arith}
use Rattle.std.specs.Prelude.{All}
use Rattle.dlk_tree.specs.Trees.{Tree, trees_in}
use Rattle.dlk_store.specs.declared.Id.{Id}
use Rattle.dlk_store.specs.Stores.{IsId, Keeps}
use Rattle.dlk_store.specs.Kids.{kid_trees-kept}
use Rattle.dlk_sequent.specs.declared.subst.Pair.{Pair}
use Rattle.dlk_sequent.specs.Substitutions.{AreKnownPairs}
use Rattle.dlk_subst.specs.Results.{args_at}

pub known_kept : {old new : List Tree} → Keeps old new → (ks : List Id) → All (IsId old) ks → All (IsId new) ks
known_kept kept ks all = λ i d h. let known = all i d h in omega (arith, known, kept.known)

pub pairs_kept : {old new : List Tree} → Keeps old new → (pairs : List Pair) → AreKnownPairs old pairs → AreKnownPairs new pairs
pairs_kept kept pairs all = λ i d h. let known = all i d h in omega (arith, known, kept.known)

pub args_kept : {old new : List Tree} → Keeps old new → (ids : List Id) → All (IsId old) ids → args_at new ids ≡ args_at old ids
args_kept kept ids all = ap trees_in (kid_trees-kept kept ids all)
