-- How many nodes the writer of a line looks at, at most: each node of a formula once, and each node of a replacement twice.
use Rattle.std.specs.Prelude.{ℕ}
use Rattle.dlk_calculus.specs.Steps.{Step}
use Rattle.dlk_lines.specs.Spelled.{InFull}
use Rattle.dlk_lines.specs.Looks.{step_looks as looks_of_step}

abbrev pub step_looks : Step → ℕ
step_looks step = looks_of_step InFull step
