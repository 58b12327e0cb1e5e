use Rattle.dlk_nodes.proofs.Begun.{none_begun}
use Rattle.dlk_nodes.proofs.adding.add_step.Goals as goal

pub returns-in-Axiom-clause-begun : goal.returns-in-Axiom-clause-begun
returns-in-Axiom-clause-begun g c = none_begun _ _

pub returns-in-Axiom-2-clause-begun : goal.returns-in-Axiom-2-clause-begun
returns-in-Axiom-2-clause-begun g c = none_begun _ _

pub returns-in-Axiom-3-clause-begun : goal.returns-in-Axiom-3-clause-begun
returns-in-Axiom-3-clause-begun g c = none_begun _ _

pub returns-in-Axiom-4-clause-begun : goal.returns-in-Axiom-4-clause-begun
returns-in-Axiom-4-clause-begun g c = none_begun _ _
