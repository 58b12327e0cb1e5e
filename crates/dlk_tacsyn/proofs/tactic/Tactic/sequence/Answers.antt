use Rattle.dlk_tacsyn.proofs.Kept.{sequence_at, sequence_known}
use Rattle.dlk_tacsyn.proofs.tactic.Tactic.sequence.Goals as goal

pub returns-clause-made : goal.returns-clause-made
returns-clause-made c = λ trees. sequence_at trees c.args.parts

pub returns-clause-known : goal.returns-clause-known
returns-clause-known c = λ trees all. sequence_known trees c.args.parts all
