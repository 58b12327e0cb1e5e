use Rattle.std.proofs.Common.{◌≡◌, ◌++◌, ◌+◌, map, drop}
use Rattle.dlk_sequent.specs.Sequents.{sequent_at}
use Rattle.dlk_smt.specs.Smt.{first_power, leaves_lines}
use Rattle.dlk_smt.proofs.leaf.leaves_text.Given as goal

-- the texts so far and those that are left are all of them, and each so far has one
abbrev pub invariant-loop-i : goal.invariant-loop-i
invariant-loop-i g l =
    let sequents = map (sequent_at (g.S.Store.trees l.store)) in
    record {
      text : l.out.items ++ leaves_lines (l.i + 1) (sequents (drop l.i l.leaves)) ≡ leaves_lines 1 (sequents l.leaves);
      first : first_power 1 (sequents l.leaves) ≡ first_power (l.i + 1) (sequents (drop l.i l.leaves));
    }
