use Rattle.std.proofs.Common.{◌≡◌, drop, map}
use Rattle.dlk_calculus.specs.Limits.{greatest_depth}
use Rattle.dlk_parse.specs.Limits.{past}
use Rattle.dlk_parse.proofs.limits.first_depth.Given as goal

-- what is left decides
abbrev pub invariant-loop-measure : goal.invariant-loop-measure
invariant-loop-measure l = past greatest_depth (map (λ m. m.depth) (drop l.measure-index l.measures)) ≡ past greatest_depth (map (λ m. m.depth) l.measures)
