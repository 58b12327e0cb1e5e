-- A substitution stays one while its store grows.
use Rattle.std.proofs.Common.{List, sym, subst}
use Rattle.std.specs.Prelude.{◌↔◌, IsTrue}
use Rattle.std.proofs.lemmas.List.Elements.{All-weaker}
use Rattle.dlk_tree.specs.Trees.{Tree}
use Rattle.dlk_store.specs.Stores.{IsId, Keeps}
use Rattle.dlk_calculus.specs.Pairs.{Pair as TreePair, IsFreeIn, IsWellFormed}
use Rattle.dlk_sequent.specs.declared.subst.Pair.{Pair}
use Rattle.dlk_sequent.specs.Substitutions.{Checked, AreKnownPairs, IsMadeOver}
use Rattle.dlk_sequent.specs.Growth.{pairs_at-kept}
use Rattle.dlk_sequent.proofs.Kept.{IsId-kept}

module _ {old new : List Tree} (keeps : Keeps old new) where
  pub AreKnownPairs-kept : (pairs : List Pair) → AreKnownPairs old pairs → AreKnownPairs new pairs
  AreKnownPairs-kept pairs h =
      All-weaker (λ (p : Pair). IsId old p.by) (λ p. IsId new p.by) (λ p. IsId-kept keeps p.by) pairs h

-- and are a substitution over the store that has grown
pub IsMadeOver-kept : {old new : List Tree} {sigma : Checked} → Keeps old new → IsMadeOver old sigma → IsMadeOver new sigma
IsMadeOver-kept {old} {new} {sigma} keeps made =
    let same = sym (pairs_at-kept keeps sigma.pairs made.known) in
    record {
      known = AreKnownPairs-kept keeps sigma.pairs made.known;
      well_formed = subst IsWellFormed same made.well_formed;
      free = subst (λ (pairs : List TreePair). IsTrue sigma.free ↔ IsFreeIn pairs) same made.free;
    }
