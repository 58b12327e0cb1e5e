use Rattle.std.proofs.Common.{◌≤◌, ◌+◌, length, map, All, vec_len}
use Rattle.dlk_replay.specs.Files.{file_lines}
use Rattle.dlk_jobs_session.specs.Ties.{line_at, IsKnownLine}
use Rattle.dlk_jobs_session.proofs.ReadLines.{Begun}
use Rattle.dlk_jobs_session.proofs.script.read_script.Given as goal

abbrev pub invariant-loop-left : goal.invariant-loop-left
invariant-loop-left g l = record {
  begun : Begun (file_lines l.fn.bytes) (file_lines l.left) (map (line_at (g.S.Store.trees l.store)) l.lines.items) (vec_len l.lines);
  known : All (IsKnownLine (g.S.Store.trees l.store)) l.lines.items;
  few : vec_len l.lines + length l.left ≤ length l.fn.bytes;
  grows : g.S.Store.grows l.initial.store l.store;
}

abbrev pub decreases-loop-left : goal.decreases-loop-left
decreases-loop-left g l = length l.left
