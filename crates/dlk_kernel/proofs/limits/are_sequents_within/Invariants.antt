use Rattle.std.proofs.Common.{◌≡◌, map, drop}
use Rattle.std.specs.List.{list_all}
use Rattle.dlk_sequent.specs.Sequents.{sequent_at}
use Rattle.dlk_kernel.specs.Limits.{is_sequent_within}
use Rattle.dlk_kernel.proofs.limits.are_sequents_within.Given as goal

-- the sequents so far are within the limit
abbrev pub invariant-loop-s : goal.invariant-loop-s
invariant-loop-s g l =
    let sequents = map (sequent_at (g.S.Store.trees l.store)) in
    list_all (is_sequent_within l.measure) (sequents l.all) ≡ list_all (is_sequent_within l.measure) (sequents (drop l.s-index l.all))
