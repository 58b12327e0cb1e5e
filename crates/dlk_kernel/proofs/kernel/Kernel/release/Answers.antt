use Rattle.dlk_kernel.proofs.Growth.{still_sound_take}
use Rattle.dlk_kernel.proofs.kernel.Kernel.release.Goals as goal

pub invariant_of-self : goal.invariant_of-self
invariant_of-self g c = rw c.truncate.ensures.items (still_sound_take _ _ c.args.mark _ _ c.self.invariant)
