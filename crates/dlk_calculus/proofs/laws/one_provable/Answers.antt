use Rattle.dlk_calculus.proofs.StepLaws.{one_given}
use Rattle.dlk_calculus.proofs.laws.one_provable.Goals as goal

pub returns : goal.returns
returns c = one_given
