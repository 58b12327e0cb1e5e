-- What is against linking, and what may be against taking steps that are known to be taken.
use Rattle.dlk_calculus.specs.declared.reason.Reason.{Reason}
use Rattle.dlk_kernel.specs.declared.fault.StepFault.{StepFault}
use Rattle.dlk_kernel.specs.declared.fault.StepFault.TheVariants as step_fault
use Rattle.dlk_link.specs.declared.fault.LinkFault.{LinkFault}
use Rattle.dlk_link.specs.declared.fault.LinkFault.TheVariants.{NoGoal, Step, Memory}

-- a step's fault as that of a link
abbrev pub link_fault_of : StepFault → LinkFault
link_fault_of (step_fault.Refused why) = Step why
link_fault_of step_fault.Memory = Memory

-- the fault is that no goal is the lemma's conclusion, which holds then, or this reason against a step: want of memory always may be
abbrev pub IsLinkFault : Type 0 → (Reason → Type 0) → LinkFault → Type 0
IsLinkFault none allowed NoGoal = none
IsLinkFault none allowed (Step why) = allowed why
IsLinkFault none allowed Memory = Unit {0}
