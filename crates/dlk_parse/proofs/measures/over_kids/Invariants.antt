use Rattle.std.proofs.Common.{◌≡◌, take, fold}
use Rattle.dlk_parse.specs.Measuring.{with_kid, bare}
use Rattle.dlk_parse.proofs.measures.over_kids.Given as goal

abbrev pub invariant-loop-kid : goal.invariant-loop-kid
invariant-loop-kid l = l.node ≡ fold with_kid (bare l.fn.ill) (take l.kid-index l.kids)
