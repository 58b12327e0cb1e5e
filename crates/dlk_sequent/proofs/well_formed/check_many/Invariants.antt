use Rattle.std.proofs.Common.{◌+◌, ◌*◌, ◌≤◌, take}
use Rattle.dlk_sequent.specs.Substitutions.{pairs_at}
use Rattle.dlk_sequent.specs.SymbolSets.{AreSymbolsOf}
use Rattle.dlk_sequent.proofs.Pairs.{AreGoodBefore}
use Rattle.dlk_sequent.proofs.well_formed.check_many.Given as goal

-- none of the first i pairs is bad, and their symbols are those that were kept
abbrev pub invariant-loop-i : goal.invariant-loop-i
invariant-loop-i g l =
    let trees = g.S.Store.trees l.store in
    record {
      good : AreGoodBefore trees l.pairs l.i;
      symbols : AreSymbolsOf (pairs_at trees (take l.i l.pairs)) l.earlier;
      few : l.steps ≤ l.fn.steps + 2 * l.i;
    }
