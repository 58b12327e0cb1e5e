-- What the faults of lines tell.
use Rattle.dlk_tree.specs.declared.name.NameFault.{NameFault}
use Rattle.dlk_tree.specs.declared.name.NameFault.TheVariants as name
use Rattle.dlk_lines.specs.declared.fault.LineFault.{LineFault}
use Rattle.dlk_lines.specs.declared.fault.LineFault.TheVariants as fault

-- The error tells that this holds; want of memory is free.
abbrev pub IsLineFaultOf : Type 0 → LineFault → Type 0
IsLineFaultOf holds fault.Malformed = holds
IsLineFaultOf holds fault.Memory = Unit {0}

-- bytes that are no name make their line Malformed
abbrev pub of_name : NameFault → LineFault
of_name name.NotAName = fault.Malformed
of_name name.Memory = fault.Memory
