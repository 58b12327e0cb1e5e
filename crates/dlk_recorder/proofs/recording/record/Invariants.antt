use Rattle.std.proofs.Common.{◌+◌, ◌*◌, ◌^◌, ◌≤◌, map, drop}
use Rattle.std.specs.Prelude.{All}
use Rattle.dlk_store.specs.Stores.{IsId}
use Rattle.dlk_rules.specs.Steps.{step_at}
use Rattle.dlk_nodes.specs.Tables.{nodes_at}
use Rattle.dlk_recorder.specs.Terms.{term_text}
use Rattle.dlk_recorder.proofs.Kept.{Kept, left_text}
use Rattle.dlk_recorder.proofs.recording.record.Given as goal

-- The lines so far are kept while they are within the limit, and counted; the table has their nodes.
abbrev pub invariant-loop-i : goal.invariant-loop-i
invariant-loop-i g l = record {
  text : Kept l.text.items l.bytes l.limit
      (left_text (nodes_at (g.S.Store.trees l.store) l.table) (l.i + 1) (map (step_at (g.S.Store.trees l.store)) (drop l.i l.taken)))
      (term_text (map (step_at (g.S.Store.trees l.store)) l.taken));
  known : All (IsId (g.S.Store.trees l.store)) l.table;
  low : l.bytes ≤ (l.i + 1) * 2 ^ 64;
}
