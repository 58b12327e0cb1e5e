-- Why a text is no strategy.
use Rattle.std.specs.Prelude.{ℕ}
use Rattle.dlk_parse.specs.declared.fault.TextFault.{TextFault}
use Rattle.dlk_parse.specs.declared.fault.TextFault.TheVariants as text
use Rattle.dlk_scripts.specs.declared.fault.PartsFault.{PartsFault}
use Rattle.dlk_scripts.specs.declared.fault.PartsFault.TheVariants as parts
use Rattle.dlk_tacsyn.specs.declared.fault.TacSyntax.{TacSyntax}
use Rattle.dlk_tacsyn.specs.declared.fault.TacSyntax.TheVariants as fault

-- each with a byte of the text
pub data Fault : Type 0 where
  -- the first byte at which no text of the grammar goes on
  Syntax : ℕ → Fault
  -- the bracket that opens level 65
  Nesting : ℕ → Fault
  -- a repeat's number above 1,000
  Repeat : ℕ → Fault
  -- an atom's name that isn't known
  UnknownAtom : ℕ → Fault
  -- the name of a known atom with arguments that it doesn't want, or of which one isn't read
  Arguments : ℕ → Fault

-- the fault of the text; want of memory is free
abbrev pub IsTacSyntaxOf : (Fault → Type 0) → TacSyntax → Type 0
IsTacSyntaxOf is_fault (fault.Syntax at) = is_fault (Syntax at)
IsTacSyntaxOf is_fault (fault.Nesting at) = is_fault (Nesting at)
IsTacSyntaxOf is_fault (fault.Repeat at) = is_fault (Repeat at)
IsTacSyntaxOf is_fault (fault.UnknownAtom at) = is_fault (UnknownAtom at)
IsTacSyntaxOf is_fault (fault.Arguments at) = is_fault (Arguments at)
IsTacSyntaxOf is_fault fault.Memory = Unit {0}

-- a quoted text that isn't read is a fault of the arguments of the atom at this byte
abbrev pub of_text : ℕ → TextFault → TacSyntax
of_text at (text.BadByte b) = fault.Arguments at
of_text at (text.Unread why) = fault.Arguments at
of_text at text.Memory = fault.Memory

-- a fault of the grammar
abbrev pub of_parts : PartsFault → TacSyntax
of_parts (parts.Syntax at) = fault.Syntax at
of_parts parts.Memory = fault.Memory
