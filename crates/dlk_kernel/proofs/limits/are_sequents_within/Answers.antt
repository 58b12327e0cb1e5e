use Rattle.dlk_kernel.proofs.limits.are_sequents_within.Goals as goal

pub is_sequent_within-requires : goal.is_sequent_within-requires
is_sequent_within-requires g c =
    rw c.value.ensures (rw (← c.s-item.is) at (c.requires c.loop-s.s-index c.s-item.result c.loop-s-test.true))
