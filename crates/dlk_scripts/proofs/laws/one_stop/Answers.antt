use Rattle.dlk_scripts.proofs.Stopping.{one_stop_at}
use Rattle.dlk_scripts.proofs.laws.one_stop.Goals as goal

pub returns : goal.returns
returns c = λ bytes i j x y. one_stop_at x y
