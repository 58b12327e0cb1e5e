use Rattle.dlk_tacsyn.proofs.Kept.{choice_at, choice_known}
use Rattle.dlk_tacsyn.proofs.tactic.Tactic.choice.Goals as goal

pub returns-clause-made : goal.returns-clause-made
returns-clause-made c = λ trees. choice_at trees c.args.parts

pub returns-clause-known : goal.returns-clause-known
returns-clause-known c = λ trees all. choice_known trees c.args.parts all
