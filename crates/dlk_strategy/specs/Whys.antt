-- Why a strategy fails, by why there is no plan, and what becomes of a run, by the fault of its atom or of its plan.
use Rattle.std.specs.Prelude.{ℕ}
use Rattle.dlk_calculus.specs.declared.reason.Reason.TheVariants as reason
use Rattle.dlk_derive.specs.Derives.{DeriveWhy}
use Rattle.dlk_derive.specs.Derives as derive
use Rattle.dlk_derive.specs.declared.fault.DeriveFault.{DeriveFault}
use Rattle.dlk_derive.specs.declared.fault.DeriveFault.TheVariants as plan_fault
use Rattle.dlk_elab.specs.declared.fault.FailWhy.{FailWhy}
use Rattle.dlk_elab.specs.declared.fault.FailWhy.TheVariants as fail
use Rattle.dlk_elab.specs.declared.fault.TacFault.{TacFault}
use Rattle.dlk_elab.specs.declared.fault.TacFault.TheVariants as atom_fault
use Rattle.dlk_strategy.specs.declared.fault.RunFault.{RunFault}
use Rattle.dlk_strategy.specs.declared.fault.RunFault.TheVariants.{Fails, Memory}

-- where no `( )'` stands, the shape is wrong, as it is where a rule finds no formula of its shape
abbrev pub why_of : DeriveWhy → FailWhy
why_of derive.NoPlace = fail.NoPlace
why_of derive.WrongShape = fail.Step reason.WrongShape
why_of derive.NoMatch = fail.NoMatch

-- the fault of a run of an atom at this byte: want of memory alone is want of memory
abbrev pub of_atom : ℕ → TacFault → RunFault
of_atom at atom_fault.UnknownName = Fails at fail.UnknownName
of_atom at atom_fault.NoPlace = Fails at fail.NoPlace
of_atom at atom_fault.NoMatch = Fails at fail.NoMatch
of_atom at (atom_fault.Step why) = Fails at (fail.Step why)
of_atom at atom_fault.Memory = Memory

-- and of `derive`, where it has no plan
abbrev pub of_plan : ℕ → DeriveFault → RunFault
of_plan at plan_fault.NoPlace = Fails at (why_of derive.NoPlace)
of_plan at plan_fault.WrongShape = Fails at (why_of derive.WrongShape)
of_plan at plan_fault.NoMatch = Fails at (why_of derive.NoMatch)
of_plan at plan_fault.Memory = Memory
