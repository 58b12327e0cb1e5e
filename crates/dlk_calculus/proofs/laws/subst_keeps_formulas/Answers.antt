use Rattle.dlk_calculus.proofs.CleanResults.{subst_formula}
use Rattle.dlk_calculus.proofs.laws.subst_keeps_formulas.Goals as goal

pub returns : goal.returns
returns c = subst_formula
