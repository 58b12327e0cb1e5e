use Rattle.dlk_tacsyn.proofs.Kept.{branch_at, branch_known}
use Rattle.dlk_tacsyn.proofs.tactic.Tactic.branch.Goals as goal

pub returns-clause-made : goal.returns-clause-made
returns-clause-made c = λ trees. branch_at trees c.args.at c.args.parts

pub returns-clause-known : goal.returns-clause-known
returns-clause-known c = λ trees all. branch_known trees c.args.at c.args.parts all
