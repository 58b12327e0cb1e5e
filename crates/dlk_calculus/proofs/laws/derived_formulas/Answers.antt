use Rattle.dlk_calculus.proofs.Formulas.{Derives-formulas}
use Rattle.dlk_calculus.proofs.laws.derived_formulas.Goals as goal

pub returns : goal.returns
returns c = Derives-formulas
