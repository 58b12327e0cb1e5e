use Rattle.dlk_nodes.proofs.NewNodes.{new_follow, each_follow}
use Rattle.dlk_nodes.proofs.laws.new_nodes_follow.Goals as goal

pub returns : goal.returns
returns c = record { one = new_follow; each = each_follow }
