use Rattle.dlk_calculus.proofs.PathLaws.{plug_itself}
use Rattle.dlk_calculus.proofs.laws.plug_is_itself.Goals as goal

pub returns : goal.returns
returns c = plug_itself
