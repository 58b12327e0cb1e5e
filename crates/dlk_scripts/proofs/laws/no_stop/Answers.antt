use Rattle.dlk_scripts.proofs.Stopping.{said_nowhere}
use Rattle.dlk_scripts.proofs.laws.no_stop.Goals as goal

pub returns : goal.returns
returns c = λ bytes t i x y. said_nowhere t x y
