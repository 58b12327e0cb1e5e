-- What is refused before memory is taken.
use Rattle.std.specs.Prelude.{◌≡◌, Option, Some, None, Result, Err}
use Rattle.dlk_reader.specs.declared.stop.LexemeFault.{LexemeFault}
use Rattle.dlk_reader.specs.declared.stop.LexemeFault.TheVariants.{Syntax}

-- Where the definition gives nothing, that is said, and never want of memory.
abbrev pub Owes : {X Y : Type 0} → Result X LexemeFault → Option Y → Type 0
Owes result (Some y) = Unit {0}
Owes result None = result ≡ Err Syntax
