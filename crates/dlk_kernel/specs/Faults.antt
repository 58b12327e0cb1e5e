-- The faults of steps, beside want of memory.
use Rattle.dlk_calculus.specs.declared.reason.Reason.{Reason}
use Rattle.dlk_calculus.specs.declared.reason.Reason.TheVariants.{NoPlace, WrongShape, NotEqual, NotFresh, NotAdmissible}
use Rattle.dlk_rules.specs.declared.rule.RuleFault.{RuleFault}
use Rattle.dlk_rules.specs.declared.rule.RuleFault.TheVariants as rule_fault
use Rattle.dlk_sequent.specs.declared.fault.ApplyFault.{ApplyFault}
use Rattle.dlk_sequent.specs.declared.fault.ApplyFault.TheVariants as apply_fault
use Rattle.dlk_kernel.specs.declared.fault.StepFault.{StepFault}
use Rattle.dlk_kernel.specs.declared.fault.StepFault.TheVariants.{Refused, Memory}

-- the reason of this fault is one of those allowed: want of memory always is
abbrev pub IsStepFault : (Reason → Type 0) → StepFault → Type 0
IsStepFault allowed (Refused why) = allowed why
IsStepFault allowed Memory = Unit {0}

-- a rule's fault as that of a step
abbrev pub fault_of : RuleFault → StepFault
fault_of rule_fault.NoPlace = Refused NoPlace
fault_of rule_fault.WrongShape = Refused WrongShape
fault_of rule_fault.NotEqual = Refused NotEqual
fault_of rule_fault.NotFresh = Refused NotFresh
fault_of rule_fault.Memory = Memory

-- a substitution's fault as that of a step
abbrev pub apply_fault_of : ApplyFault → StepFault
apply_fault_of apply_fault.NotAdmissible = Refused NotAdmissible
apply_fault_of apply_fault.Memory = Memory
