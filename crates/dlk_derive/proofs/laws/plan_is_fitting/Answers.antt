use Rattle.dlk_derive.proofs.Fitting.{use_fits, plan_names}
use Rattle.dlk_derive.proofs.laws.plan_is_fitting.Goals as goal

pub returns-clause-fitting : goal.returns-clause-fitting
returns-clause-fitting c = use_fits

pub returns-clause-names : goal.returns-clause-names
returns-clause-names c = plan_names
