use Rattle.dlk_nodes.proofs.OneNode as law
use Rattle.dlk_nodes.proofs.laws.one_node_line.Goals as goal

pub returns : goal.returns
returns c = law.one_node_line
