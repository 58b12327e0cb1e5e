use Rattle.dlk_nodes.proofs.NumbersRead.{one_number_more, of_no_item, no_number_left, last_number}
use Rattle.dlk_nodes.proofs.numbers.nodes_numbered.Goals as goal

pub returns-in_default-node-clause-fault : goal.returns-in_default-node-clause-fault
returns-in_default-node-clause-fault c =
    of_no_item c.args.table.now c.args.text.now c.loop-number.left.now c.loop-number.ids.items c.loop-number.invariant _ _ c.in-Some.ensures.found
    c.in_default-node.ensures

pub loop-number-preserved : goal.loop-number-preserved
loop-number-preserved c =
    rw c.in_ok-push.ensures.items
    (one_number_more c.args.table.now c.args.text.now c.loop-number.left.now c.loop-number.ids.items c.loop-number.invariant _ _ _ c.in-Some.ensures.found
    c.in-Some-node.ensures)

pub returns-in_default-node_numbered-clause-fault : goal.returns-in_default-node_numbered-clause-fault
returns-in_default-node_numbered-clause-fault c =
    no_number_left c.args.table.now c.args.text.now c.loop-number.left.now c.loop-number.ids.items c.loop-number.invariant c.in_default.ensures.none
    c.in_default-node_numbered.ensures

pub returns-clause-found : goal.returns-clause-found
returns-clause-found c =
    rw c.in_ok-push-2.ensures.items
    (last_number c.args.table.now c.args.text.now c.loop-number.left.now c.loop-number.ids.items c.loop-number.invariant _ c.in-Some-node_numbered.ensures)
