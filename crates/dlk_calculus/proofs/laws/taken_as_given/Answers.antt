use Rattle.dlk_calculus.proofs.LimitLaws.{taken_as_given}
use Rattle.dlk_calculus.proofs.laws.taken_as_given.Goals as goal

pub returns : goal.returns
returns c = taken_as_given
