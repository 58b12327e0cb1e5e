use Rattle.std.proofs.Common.{sym, subst}
use Rattle.dlk_memo.specs.Rules.{AreReadyPairs}
use Rattle.dlk_memo.proofs.Rules.{pairs_ready}
use Rattle.dlk_memo.proofs.memo.apply_of.Goals as goal

pub run-requires-clause-ready : goal.run-requires-clause-ready
run-requires-clause-ready g c =
    let trees = g.S.Store.trees c.args.store.now in
    subst (AreReadyPairs trees) (sym c.pairs-pairs.ensures)
    (pairs_ready trees c.args.sigma.now.pairs c.requires.made.known c.requires.made.well_formed)
