use Rattle.dlk_calculus.proofs.Decided.{subst_decided}
use Rattle.dlk_calculus.proofs.laws.subst_decided.Goals as goal

pub returns : goal.returns
returns c = subst_decided
