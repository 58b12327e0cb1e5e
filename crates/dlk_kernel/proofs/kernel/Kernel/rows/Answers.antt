use Rattle.dlk_kernel.proofs.Growth.{all_derived}
use Rattle.dlk_kernel.proofs.kernel.Kernel.rows.Goals as goal

pub returns-clause-derived : goal.returns-clause-derived
returns-clause-derived g c = rw (← c.self.view_is) (all_derived _ _ c.self.invariant.are_sound)
