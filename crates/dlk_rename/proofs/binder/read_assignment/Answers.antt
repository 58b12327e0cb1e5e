use Rattle.dlk_rename.proofs.Binders.{IsNode, assignment_read}
use Rattle.dlk_rename.proofs.binder.read_assignment.Goals as goal

pub returns-in_ok-name-in-Assign : goal.returns-in_ok-name-in-Assign
returns-in_ok-name-in-Assign g c =
    let trees = g.S.Store.trees c.args.store.now in
    let n : IsNode trees c.args.program c.look-node.result.op.now c.look-node.result.kids.now =
    record { made = g.met.S.Store.well_made c.args.store.now; known = c.requires; node_is = c.look-node.ensures.node; kids = c.look-node.ensures.known } in
    assignment_read c.look-node.result.kids.now n c.in_ok-name-in-Assign.name _ c.in-Assign.is c.if-not-v.true c.in_ok-name-in-Assign.ensures.cases
