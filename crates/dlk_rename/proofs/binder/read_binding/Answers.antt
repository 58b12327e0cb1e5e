use Rattle.std.proofs.Common.{ap, get_or}
use Rattle.dlk_tree.specs.Table.{kid_sorts}
use Rattle.dlk_store.specs.Stores.{tree}
use Rattle.dlk_rename.specs.Bindings.{IsAssignment}
use Rattle.dlk_rename.proofs.Binders.{IsNode, not_some, forall_read, exists_read, box_read, dia_read, no_modal}
use Rattle.dlk_rename.proofs.binder.read_binding.Goals as goal

pub returns-in_ok-name-in-Forall : goal.returns-in_ok-name-in-Forall
returns-in_ok-name-in-Forall g c =
    let trees = g.S.Store.trees c.args.store.now in
    let n : IsNode trees c.args.id c.look-node.result.op.now c.look-node.result.kids.now =
    record { made = g.met.S.Store.well_made c.args.store.now; known = c.requires; node_is = c.look-node.ensures.node; kids = c.look-node.ensures.known } in
    forall_read c.look-node.result.kids.now n c.in_ok-name-in-Forall.name _ c.in-Forall.is c.in_ok-name-in-Forall.ensures.cases

pub returns-in_ok-name-in-Exists : goal.returns-in_ok-name-in-Exists
returns-in_ok-name-in-Exists g c =
    let trees = g.S.Store.trees c.args.store.now in
    let n : IsNode trees c.args.id c.look-node.result.op.now c.look-node.result.kids.now =
    record { made = g.met.S.Store.well_made c.args.store.now; known = c.requires; node_is = c.look-node.ensures.node; kids = c.look-node.ensures.known } in
    exists_read c.look-node.result.kids.now n c.in_ok-name-in-Exists.name _ c.in-Exists.is c.in_ok-name-in-Exists.ensures.cases

pub returns-in-Some : goal.returns-in-Some
returns-in-Some g c =
    let trees = g.S.Store.trees c.args.store.now in
    let n : IsNode trees c.args.id c.look-node.result.op.now c.look-node.result.kids.now =
    record { made = g.met.S.Store.well_made c.args.store.now; known = c.requires; node_is = c.look-node.ensures.node; kids = c.look-node.ensures.known } in
    box_read c.look-node.result.kids.now n c.in-Some.a (rw c.in-Some.is at c.in_ok-a-in-Box.ensures) c.in-Box.is

pub returns-in-Some-2 : goal.returns-in-Some-2
returns-in-Some-2 g c =
    let trees = g.S.Store.trees c.args.store.now in
    let n : IsNode trees c.args.id c.look-node.result.op.now c.look-node.result.kids.now =
    record { made = g.met.S.Store.well_made c.args.store.now; known = c.requires; node_is = c.look-node.ensures.node; kids = c.look-node.ensures.known } in
    dia_read c.look-node.result.kids.now n c.in-Some-2.a (rw c.in-Some-2.is at c.in_ok-a-in-Dia.ensures) c.in-Dia.is

pub returns-in_default-2 : goal.returns-in_default-2
returns-in_default-2 g c =
    let trees = g.S.Store.trees c.args.store.now in
    let n : IsNode trees c.args.id c.look-node.result.op.now c.look-node.result.kids.now =
    record { made = g.met.S.Store.well_made c.args.store.now; known = c.requires; node_is = c.look-node.ensures.node; kids = c.look-node.ensures.known } in
    no_modal c.look-node.result.kids.now n (ap kid_sorts c.in-Box.is)
    (not_some (IsAssignment trees (tree trees (get_or c.look-node.result.kids.now 0 (record { 0 = 0 })))) c.in_ok-a-in-Box.field-0
    c.in_ok-a-in-Box.ensures c.in_default-2.not-Some)

pub returns-in_default-3 : goal.returns-in_default-3
returns-in_default-3 g c =
    let trees = g.S.Store.trees c.args.store.now in
    let n : IsNode trees c.args.id c.look-node.result.op.now c.look-node.result.kids.now =
    record { made = g.met.S.Store.well_made c.args.store.now; known = c.requires; node_is = c.look-node.ensures.node; kids = c.look-node.ensures.known } in
    no_modal c.look-node.result.kids.now n (ap kid_sorts c.in-Dia.is)
    (not_some (IsAssignment trees (tree trees (get_or c.look-node.result.kids.now 0 (record { 0 = 0 })))) c.in_ok-a-in-Dia.field-0
    c.in_ok-a-in-Dia.ensures c.in_default-3.not-Some)
