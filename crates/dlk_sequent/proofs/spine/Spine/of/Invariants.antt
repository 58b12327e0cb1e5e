use Rattle.std.proofs.Common.{◌≡◌, take}
use Rattle.dlk_sequent.specs.Spines.{start, AreTurns}
use Rattle.dlk_sequent.proofs.Turns.{Walked, kids_of}
use Rattle.dlk_sequent.proofs.spine.Spine.of.Given as goal

-- the way along the first kids
abbrev pub invariant-loop-kid : goal.invariant-loop-kid
invariant-loop-kid g l =
    let trees = g.S.Store.trees l.store in
    record {
      walked : Walked trees l.fn.id l.path l.at l.kid-index;
      starts : start l.turns.items l.at ≡ l.fn.id;
      goes : kids_of l.turns.items ≡ take l.kid-index l.path;
      are : AreTurns trees l.turns.items l.at;
    }
