use Rattle.dlk_calculus.proofs.PathLaws.{plug_without}
use Rattle.dlk_calculus.proofs.laws.plug_without_dots.Goals as goal

pub returns : goal.returns
returns c = plug_without
