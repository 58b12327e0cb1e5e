use Rattle.std.proofs.Common.{◌≡◌, map, drop}
use Rattle.std.specs.List.{list_all}
use Rattle.dlk_sequent.specs.Sequents.{sequent_at}
use Rattle.dlk_kernel.specs.Limits.{has_few}
use Rattle.dlk_kernel.proofs.limits.have_few.Given as goal

-- the sequents so far have few formulas
abbrev pub invariant-loop-s : goal.invariant-loop-s
invariant-loop-s g l =
    let sequents = map (sequent_at (g.S.Store.trees l.store)) in
    list_all has_few (sequents l.all) ≡ list_all has_few (sequents (drop l.s-index l.all))
