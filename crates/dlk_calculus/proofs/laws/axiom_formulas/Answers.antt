use Rattle.dlk_calculus.proofs.AxiomLaws.{axioms_formulas, premises_formulas, conclusions_formulas}
use Rattle.dlk_calculus.proofs.laws.axiom_formulas.Goals as goal

pub returns-clause-axioms : goal.returns-clause-axioms
returns-clause-axioms c = axioms_formulas

pub returns-clause-premises : goal.returns-clause-premises
returns-clause-premises c = premises_formulas

pub returns-clause-conclusions : goal.returns-clause-conclusions
returns-clause-conclusions c = conclusions_formulas
