use Rattle.dlk_nodes.proofs.Numbered.{numbered}
use Rattle.dlk_nodes.proofs.numbers.node_numbered.Goals as goal

pub returns : goal.returns
returns c = numbered c.args.table.now c.args.text.now c.in_ok-number.number c.node.result c.in_ok-number.ensures c.node.ensures
