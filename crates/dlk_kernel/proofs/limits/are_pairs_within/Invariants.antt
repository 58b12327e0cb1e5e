use Rattle.std.proofs.Common.{◌≡◌, drop}
use Rattle.std.specs.List.{list_all}
use Rattle.dlk_sequent.specs.Substitutions.{pairs_at}
use Rattle.dlk_kernel.specs.Limits.{is_within}
use Rattle.dlk_kernel.proofs.limits.are_pairs_within.Given as goal

-- the replacements so far are within the limit
abbrev pub invariant-loop-pair : goal.invariant-loop-pair
invariant-loop-pair g l =
    let pairs = pairs_at (g.S.Store.trees l.store) in
    list_all (λ pair. is_within l.measure pair.by) (pairs l.pairs) ≡ list_all (λ pair. is_within l.measure pair.by) (pairs (drop l.pair-index l.pairs))
