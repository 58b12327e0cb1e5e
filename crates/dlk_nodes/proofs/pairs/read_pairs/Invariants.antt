use Rattle.std.proofs.Common.{length}
use Rattle.std.specs.Prelude.{option_copied}
use Rattle.dlk_sequent.specs.Substitutions.{pairs_at, AreKnownPairs}
use Rattle.dlk_nodes.specs.FirstPair.{behind_comma}
use Rattle.dlk_nodes.specs.Tables.{nodes_at}
use Rattle.dlk_nodes.proofs.PairsFound.{PairsSoFar}
use Rattle.dlk_nodes.proofs.pairs.read_pairs.Given as goal

-- the pairs so far, with those that are left
abbrev pub invariant-loop-left : goal.invariant-loop-left
invariant-loop-left g l =
    let trees = g.S.Store.trees l.store in
    record {
      so_far : PairsSoFar (nodes_at trees l.table) l.text (option_copied l.left) (pairs_at trees l.pairs.items);
      known : AreKnownPairs trees l.pairs.items;
    }

abbrev pub decreases-loop-left : goal.decreases-loop-left
decreases-loop-left g l = length (behind_comma (option_copied l.left))
