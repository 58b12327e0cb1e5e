use Rattle.dlk_nodes.proofs.NodeRead.{node_read}
use Rattle.dlk_nodes.proofs.laws.written_node_is_read.Goals as goal

pub returns : goal.returns
returns c = node_read
