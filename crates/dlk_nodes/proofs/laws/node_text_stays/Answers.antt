use Rattle.dlk_nodes.proofs.LongerTable.{text_stays}
use Rattle.dlk_nodes.proofs.laws.node_text_stays.Goals as goal

pub returns : goal.returns
returns c = text_stays
