use Rattle.dlk_calculus.proofs.PathLaws.{fill_without}
use Rattle.dlk_subst.proofs.laws.fill_is_itself.Goals as goal

pub returns : goal.returns
returns c = fill_without
