use Rattle.std.proofs.Common.{◌≡◌, ◌++◌}
use Rattle.std.specs.Prelude.{codes}
use Rattle.dlk_library.specs.Generated.{increments}
use Rattle.dlk_library.proofs.generating.generate.Given as goal

abbrev pub invariant-loop : goal.invariant-loop
invariant-loop l = l.model.items ≡ codes "x>=0 -> " ++ increments l.counter
