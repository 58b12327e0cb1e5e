use Rattle.dlk_nodes.proofs.OneState as law
use Rattle.dlk_nodes.proofs.laws.one_by_nodes.Goals as goal

pub returns : goal.returns
returns c = law.says_one
