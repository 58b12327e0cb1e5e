-- Why nothing was answered, by why an input was not read.
use Rattle.dlk_transfer.specs.declared.transfer.ReadError.{ReadError}
use Rattle.dlk_transfer.specs.declared.transfer.ReadError.TheVariants as read
use Rattle.dlk.specs.declared.fault.NoAnswer.{NoAnswer}
use Rattle.dlk.specs.declared.fault.NoAnswer.TheVariants.{Fault, Memory}

abbrev pub read_error : ReadError → NoAnswer
read_error read.Memory = Memory
read_error read.Fault = Fault
