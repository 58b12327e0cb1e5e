use Rattle.dlk_uses.proofs.Goals.{leaf_fits_goal, rule_fits_goal}
use Rattle.dlk_uses.proofs.laws.goals_fit.Goals as goal

pub returns : goal.returns
returns c = record { leaf = leaf_fits_goal; rule = rule_fits_goal }
