use Rattle.std.proofs.Common.{◌≡◌, take, map, fold, None}
use Rattle.dlk_parse.specs.Measuring.{lesser}
use Rattle.dlk_parse.proofs.limits.least_ill.Given as goal

abbrev pub invariant-loop-measure : goal.invariant-loop-measure
invariant-loop-measure l = l.ill ≡ fold lesser None (map (λ m. m.ill) (take l.measure-index l.measures))
