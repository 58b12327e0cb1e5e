use Rattle.std.proofs.Common.{refl}
use Rattle.dlk_kernel.proofs.Growth.{named_kept, still_sound, same_rows}
use Rattle.dlk_kernel.proofs.kernel.KernelStore.make_like.Goals as goal

-- the rows are sound over the grown store too
pub invariant_of-self : goal.invariant_of-self
invariant_of-self g c =
    let keeps = g.met.S.Store.grows_keeps c.self.inside.store c.make_like.new.self c.make_like.ensures.grows in
    still_sound _ _ keeps _ _ _ _ c.self.invariant (named_kept _ _ keeps _ c.self.invariant.are_named)

pub returns-clause-grows : goal.returns-clause-grows
returns-clause-grows g c =
    rw (← c.self.view_is) (
      c.make_like.ensures.grows,
      same_rows g.S.Store.trees _ _ (g.met.S.Store.grows_keeps c.self.inside.store c.make_like.new.self c.make_like.ensures.grows)
          c.self.invariant.are_sound refl,
    )
