use Rattle.std.proofs.Common.{◌+◌, ◌≤◌, length, map}
use Rattle.std.specs.Prelude.{All}
use Rattle.dlk_rules.specs.Steps.{step_at, HasKnownIds}
use Rattle.dlk_kernel.specs.Kernel.{facts}
use Rattle.dlk_replay.specs.Files.{file_lines}
use Rattle.dlk_replay.specs.Replay.{AreKnownNodes}
use Rattle.dlk_replay.proofs.Watching.{SoFar}
use Rattle.dlk_replay.proofs.replaying.take_lines.Given as goal

-- The rows and the nodes are those of the lines so far, the watcher has seen their steps, and these are kept or none. Each line has a byte at least.
abbrev pub invariant-loop-left : goal.invariant-loop-left
invariant-loop-left g l = record {
  so_far : SoFar g.W.Watcher.after (file_lines l.fn.bytes) (file_lines l.left) l.place l.last (g.S.Store.trees l.kernel.store) l.version
      (facts g.S.Store.trees l.kernel) l.keep
      (map (step_at (g.S.Store.trees l.kernel.store)) l.kept.items) l.fn.watcher l.watcher;
  nodes : AreKnownNodes (g.S.Store.trees l.kernel.store) l.version;
  known : All (HasKnownIds (g.S.Store.trees l.kernel.store)) l.kept.items;
  room : l.place + length l.left ≤ length l.fn.bytes;
  grows : g.S.Store.grows l.fn.kernel.store l.kernel.store;
}

abbrev pub decreases-loop-left : goal.decreases-loop-left
decreases-loop-left g l = length l.left
