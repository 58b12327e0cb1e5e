-- The number of two halves.
use Rattle.std.specs.Prelude.{◌+◌, ◌*◌, ◌%◌, ◌^◌}
use Rattle.dlk_tree.specs.declared.op.Num.{Num}
use Rattle.dlk_reader.specs.declared.halves.Halves.{Halves}

abbrev pub number_of : Halves → Num
number_of h = record { digits = h.high * 2 ^ 64 + h.low; scale = h.scale % 256 }
