use Rattle.std.proofs.Common.{◌≡◌, drop, map}
use Rattle.dlk_calculus.specs.Limits.{most_nodes}
use Rattle.dlk_parse.specs.Limits.{past}
use Rattle.dlk_parse.proofs.limits.first_size.Given as goal

-- what is left decides
abbrev pub invariant-loop-measure : goal.invariant-loop-measure
invariant-loop-measure l = past most_nodes (map (λ m. m.size) (drop l.measure-index l.measures)) ≡ past most_nodes (map (λ m. m.size) l.measures)
