use Rattle.dlk_match.proofs.Nothing.{nothing_replaced}
use Rattle.dlk_match.proofs.instances.nothing_replaced.Goals as goal

pub returns : goal.returns
returns c = nothing_replaced
