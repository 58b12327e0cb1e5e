use Rattle.dlk_guard.proofs.FirstLines.{one_first, guarded_or_first}
use Rattle.dlk_guard.proofs.laws.first_or_guarded.Goals as goal

pub returns-clause-one : goal.returns-clause-one
returns-clause-one c = one_first

pub returns-clause-some : goal.returns-clause-some
returns-clause-some c = guarded_or_first

pub returns-clause-not_both : goal.returns-clause-not_both
returns-clause-not_both c = λ all n why guarded first. guarded.none n why first.refused
