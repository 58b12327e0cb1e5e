use Rattle.dlk_nodes.proofs.SomeNode as law
use Rattle.dlk_nodes.proofs.laws.some_node_line.Goals as goal

pub returns : goal.returns
returns c = law.some_node_line
