-- Which fault a place is.
use Rattle.std.specs.Prelude.{ℕ}
use Rattle.dlk_lex.specs.declared.fault.LexFault.{LexFault}
use Rattle.dlk_lex.specs.declared.fault.LexFault.TheVariants.{Memory, BadByte}

-- the fault at a bad place; want of memory is free
abbrev pub IsLexFaultOf : (ℕ → Type 0) → LexFault → Type 0
IsLexFaultOf is_bad (BadByte at) = is_bad at
IsLexFaultOf is_bad Memory = Unit {0}
