use Rattle.dlk_subst.proofs.Unchanged.{subst_itself}
use Rattle.dlk_subst.proofs.laws.subst_is_itself.Goals as goal

pub returns : goal.returns
returns c = subst_itself
