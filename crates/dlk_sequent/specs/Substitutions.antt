-- What pairs of ids stand for, and when they are a substitution.
use Rattle.std.specs.Prelude.{◌↔◌, List, Bool, IsTrue, map, All}
use Rattle.dlk_tree.specs.Trees.{Tree}
use Rattle.dlk_store.specs.Stores.{IsId, tree}
use Rattle.dlk_calculus.specs.Pairs.{Pair as TreePair, IsFreeIn, IsWellFormed, FirstIll}
use Rattle.dlk_sequent.specs.declared.subst.Pair.{Pair}
use Rattle.dlk_sequent.specs.declared.fault.SubstFault.{SubstFault}
use Rattle.dlk_sequent.specs.declared.fault.SubstFault.TheVariants.{Ill, Memory}

-- what contracts see of a substitution: its pairs, and whether some variable is free in a replacement of a function or predicate
pub record Checked : Type 0 where
  pub pairs : List Pair
  pub free : Bool

-- the pairs over the trees of their ids
abbrev pub pair_at : List Tree → Pair → TreePair
pair_at trees p = record { sym = p.sym; by = tree trees p.by }

abbrev pub pairs_at : List Tree → List Pair → List TreePair
pairs_at trees pairs = map (pair_at trees) pairs

-- their ids are those of the store
abbrev pub AreKnownPairs : List Tree → List Pair → Type 0
AreKnownPairs trees pairs = All (λ (p : Pair). IsId trees p.by) pairs

-- a substitution over a store with these trees
pub record IsMadeOver (trees : List Tree) (sigma : Checked) : Type 0 where
  pub known : AreKnownPairs trees sigma.pairs
  pub well_formed : IsWellFormed (pairs_at trees sigma.pairs)
  pub free : IsTrue sigma.free ↔ IsFreeIn (pairs_at trees sigma.pairs)

-- the pairs' fault: want of memory always may be
abbrev pub IsIllFault : List Tree → List Pair → SubstFault → Type 0
IsIllFault trees pairs (Ill n why) = FirstIll (pairs_at trees pairs) n why
IsIllFault trees pairs Memory = Unit {0}
