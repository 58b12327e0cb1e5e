use Rattle.std.proofs.Common.{drop}
use Rattle.dlk_calculus.specs.Pairs.{IsFreeIn}
use Rattle.dlk_sequent.specs.Substitutions.{pairs_at}
use Rattle.dlk_sequent.proofs.subst.is_free_in.Given as goal

-- none of the pairs so far has a free variable
abbrev pub invariant-loop-pair : goal.invariant-loop-pair
invariant-loop-pair g l =
    let trees = g.S.Store.trees l.store in
    IsFreeIn (pairs_at trees l.pairs) → IsFreeIn (pairs_at trees (drop l.pair-index l.pairs))
