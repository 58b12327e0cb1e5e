use Rattle.dlk_calculus.proofs.LimitLaws.{given_without_reason}
use Rattle.dlk_calculus.proofs.laws.given_without_reason.Goals as goal

pub returns : goal.returns
returns c = given_without_reason
