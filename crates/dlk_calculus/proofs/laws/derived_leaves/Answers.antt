use Rattle.dlk_calculus.proofs.Leaves.{Derives-leaves}
use Rattle.dlk_calculus.proofs.laws.derived_leaves.Goals as goal

pub returns : goal.returns
returns c = Derives-leaves
