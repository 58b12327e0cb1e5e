use Rattle.std.proofs.Common.{◌≡◌, drop}
use Rattle.dlk_store.specs.Stores.{tree}
use Rattle.dlk_sequent.specs.Substitutions.{pairs_at}
use Rattle.dlk_memo.specs.Rules.{any_occurs}
use Rattle.dlk_memo.proofs.substituting.any_occurs.Given as goal

-- the symbols are looked for in the pairs that are left
abbrev pub invariant-loop-pair : goal.invariant-loop-pair
invariant-loop-pair g l =
    let trees = g.S.Store.trees l.store in
    any_occurs (pairs_at trees l.pairs) (tree trees l.id) ≡ any_occurs (pairs_at trees (drop l.pair-index l.pairs)) (tree trees l.id)
