use Rattle.std.proofs.Common.{length}
use Rattle.dlk_store.specs.Stores.{Keeps}
use Rattle.dlk_kernel.specs.Kernel.{facts}
use Rattle.dlk_nodes.specs.Lines.{IsLine}
use Rattle.dlk_nodes.specs.Tables.{nodes_at}
use Rattle.dlk_replay.proofs.TakenLine.{node_fresh, text_wrong}
use Rattle.dlk_replay.proofs.taking.take_by_nodes.Goals as goal

pub take_node-requires : goal.take_node-requires
take_node-requires g c =
    let old = g.S.Store.trees c.args.kernel.now.store in
    let new = g.S.Store.trees c.read_node_line.new.store.store in
    let keeps : Keeps old new = g.met.S.Store.grows_keeps c.args.kernel.now.store c.read_node_line.new.store.store c.read_node_line.ensures.grows.0 in
    let one = g.met.S.Store.one_id c.rows-rows.ensures.unique c.read_node_line.new.store.store in
    let is = rw c.in-Ok-Node.field-0-is at c.in-Ok-Node.ensures.found in
    let its = rw c.in-Ok-Node.field-0-is at c.in-Ok-Node.ensures.known in
    node_fresh old new c.args.table.now c.in-Ok-Node.id c.args.line.now c.in-Ok-Node.number keeps one c.requires its is

pub returns-in-Err-clause-fault : goal.returns-in-Err-clause-fault
returns-in-Err-clause-fault g c =
    let table = c.args.table.now in
    rw c.of_text.ensures (text_wrong (IsLine (nodes_at (g.S.Store.trees c.args.kernel.now.store) table)) c.args.line.now (length table) c.args.place
    (facts g.S.Store.trees c.args.kernel.now) c.in-Err.fault c.in-Err.ensures.fault)

pub returns-in_err-take_step-in-Ok-Step-clause-grows : goal.returns-in_err-take_step-in-Ok-Step-clause-grows
returns-in_err-take_step-in-Ok-Step-clause-grows g c =
    g.met.S.Store.grows_trans c.args.kernel.now.store c.read_node_line.new.store.store c.take_step.new.kernel.store c.read_node_line.ensures.grows.0
    c.take_step.ensures.grows

pub returns-in_ok-take_step-in-Ok-Step-clause-grows : goal.returns-in_ok-take_step-in-Ok-Step-clause-grows
returns-in_ok-take_step-in-Ok-Step-clause-grows g c =
    g.met.S.Store.grows_trans c.args.kernel.now.store c.read_node_line.new.store.store c.take_step.new.kernel.store c.read_node_line.ensures.grows.0
    c.take_step.ensures.grows
