use Rattle.dlk_kernel.proofs.Reading.{read_known, read_derived, read_formulas}
use Rattle.dlk_kernel.proofs.kernel.Kernel.row.Goals as goal

pub returns-clause-known : goal.returns-clause-known
returns-clause-known g c =
    rw (← c.self.view_is) (read_known _ _ c.self.invariant.are_sound c.args.fact c.index.result.now (rw (← c.self.view_is) at c.requires) c.index.ensures)

pub returns-clause-derived : goal.returns-clause-derived
returns-clause-derived g c =
    rw (← c.self.view_is) (read_derived _ _ c.self.invariant.are_sound c.args.fact c.index.result.now (rw (← c.self.view_is) at c.requires) c.index.ensures)

pub returns-clause-formulas : goal.returns-clause-formulas
returns-clause-formulas g c =
    rw (← c.self.view_is) (read_formulas _ _ c.self.invariant.are_sound c.args.fact c.index.result.now (rw (← c.self.view_is) at c.requires) c.index.ensures)
