use Rattle.dlk_subst.proofs.Unchanged.{without_dots}
use Rattle.dlk_subst.proofs.laws.dots_are_few.Goals as goal

pub returns : goal.returns
returns c = without_dots
