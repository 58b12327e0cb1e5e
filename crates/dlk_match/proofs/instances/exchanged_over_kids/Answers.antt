use Rattle.std.proofs.Common.{refl}
use Rattle.dlk_tree.specs.declared.op.Op.TheVariants.{Equiv, Imply, Eq}
use Rattle.dlk_match.proofs.Turns.{exchanged_two}
use Rattle.dlk_match.proofs.instances.exchanged_over_kids.Goals as goal

pub returns-clause-equivalence : goal.returns-clause-equivalence
returns-clause-equivalence c = exchanged_two Equiv (λ x y. refl)

pub returns-clause-implication : goal.returns-clause-implication
returns-clause-implication c = exchanged_two Imply (λ x y. refl)

pub returns-clause-equation : goal.returns-clause-equation
returns-clause-equation c = exchanged_two Eq (λ x y. refl)
