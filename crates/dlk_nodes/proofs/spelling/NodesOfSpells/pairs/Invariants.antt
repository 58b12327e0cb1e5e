use Rattle.std.proofs.Common.{drop}
use Rattle.dlk_sequent.specs.Substitutions.{pairs_at}
use Rattle.dlk_print.proofs.Left.{Left}
use Rattle.dlk_lines.specs.Spelled.{ByNodes}
use Rattle.dlk_lines.specs.Written.{pairs_text}
use Rattle.dlk_nodes.specs.Tables.{nodes_at}
use Rattle.dlk_nodes.proofs.WrittenLaws.{later_pairs}
use Rattle.dlk_nodes.proofs.spelling.NodesOfSpells.pairs.Given as goal

-- the pairs from here on are left
abbrev pub invariant-loop-pair : goal.invariant-loop-pair
invariant-loop-pair g l =
    let trees = g.S.Store.trees l.self.store.now in
    let nodes = nodes_at trees l.self.table.now in
    Left l.fn.out.items (pairs_text (ByNodes nodes) (pairs_at trees l.fn.pairs)) l.out.items (later_pairs trees nodes (drop l.pair-index l.rest))
