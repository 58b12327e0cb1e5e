-- An operator, or another in its place.
use Rattle.std.specs.Prelude.{Option, None, Some}
use Rattle.dlk_tree.specs.declared.op.Op.{Op}

abbrev pub or_same : Op → Option Op → Op
or_same op None = op
or_same op (Some other) = other
