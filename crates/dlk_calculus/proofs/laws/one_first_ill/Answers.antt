use Rattle.dlk_calculus.proofs.WellFormed.{one_first_ill, well_formed_or_ill}
use Rattle.dlk_calculus.proofs.laws.one_first_ill.Goals as goal

pub returns-clause-one : goal.returns-clause-one
returns-clause-one c = one_first_ill

pub returns-clause-some : goal.returns-clause-some
returns-clause-some c = well_formed_or_ill

pub returns-clause-not_both : goal.returns-clause-not_both
returns-clause-not_both c = λ pairs n why well ill. well.none n why ill.ill
