-- What stands beside the name of an axiom: names with their new names, and pairs.
use Rattle.std.specs.Prelude.{List}
use Rattle.dlk_tree.specs.Trees.{Tree}
use Rattle.dlk_calculus.specs.Pairs.{Extra as TreeExtra}
use Rattle.dlk_sequent.specs.declared.extra.Extra.{Extra}
use Rattle.dlk_sequent.specs.Substitutions.{pairs_at, AreKnownPairs}

-- it over the trees of its ids
abbrev pub extra_at : List Tree → Extra → TreeExtra
extra_at trees extra = record { renames = extra.renames; pairs = pairs_at trees extra.pairs }

-- its ids are those of the store
abbrev pub IsKnownExtra : List Tree → Extra → Type 0
IsKnownExtra trees extra = AreKnownPairs trees extra.pairs
