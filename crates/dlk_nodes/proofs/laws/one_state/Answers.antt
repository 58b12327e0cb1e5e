use Rattle.dlk_nodes.proofs.OneState as law
use Rattle.dlk_nodes.proofs.laws.one_state.Goals as goal

pub returns : goal.returns
returns c = law.one_state
