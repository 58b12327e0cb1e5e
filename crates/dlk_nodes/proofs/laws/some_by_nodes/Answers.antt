use Rattle.dlk_nodes.proofs.SomeTrees.{says_or_not}
use Rattle.dlk_nodes.proofs.laws.some_by_nodes.Goals as goal

pub returns : goal.returns
returns c = says_or_not
