use Rattle.std.proofs.Common.{map, drop}
use Rattle.std.specs.Prelude.{◌↔◌}
use Rattle.dlk_calculus.specs.Provables.{IsAmong}
use Rattle.dlk_sequent.specs.Sequents.{sequent_at}
use Rattle.dlk_kernel.proofs.leaves.is_among.Given as goal

-- it is one of all where it is one of those that are left
abbrev pub invariant-loop-t : goal.invariant-loop-t
invariant-loop-t g l =
    let at = sequent_at (g.S.Store.trees l.store) in
    IsAmong (at l.s) (map at l.all) ↔ IsAmong (at l.s) (map at (drop l.t-index l.all))
