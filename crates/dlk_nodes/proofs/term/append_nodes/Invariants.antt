use Rattle.std.proofs.Common.{◌+◌, ◌-◌, ◌≤◌, take, drop}
use Rattle.dlk_print.proofs.Left.{Left}
use Rattle.dlk_nodes.specs.Put.{KidsFollow}
use Rattle.dlk_nodes.specs.Tables.{nodes_at}
use Rattle.dlk_nodes.specs.TermFiles.{node_lines, ended}
use Rattle.dlk_nodes.proofs.term.append_nodes.Given as goal

-- the lines from this place on are left
abbrev pub invariant-loop-place : goal.invariant-loop-place
invariant-loop-place g l =
    let all = nodes_at (g.S.Store.trees l.store) l.table in
    record {
      left : Left l.fn.out.items (ended (node_lines (take l.from all) (drop l.from all))) l.out.items
          (ended (node_lines (take l.place all) (drop l.place all)));
      follow : KidsFollow (take l.place all) (drop l.place all);
      looks : l.steps ≤ l.fn.steps + (l.place - l.from);
    }
