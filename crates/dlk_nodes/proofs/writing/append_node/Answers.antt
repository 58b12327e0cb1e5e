use Rattle.std.proofs.Common.{sym, ap}
use Rattle.std.specs.Prelude.{codes}
use Rattle.std.specs.Fmt.{decimal}
use Rattle.dlk_store.specs.Stores.{kid_trees}
use Rattle.dlk_print.proofs.Left.{failed, partly, appended, last, same_text}
use Rattle.dlk_nodes.specs.Tables.{nodes_at}
use Rattle.dlk_nodes.specs.Words.{op_text}
use Rattle.dlk_nodes.specs.Written.{kids_text, numbered_text}
use Rattle.dlk_nodes.proofs.IdTexts.{kids_same}
use Rattle.dlk_nodes.proofs.WrittenLaws.{line_left}
use Rattle.dlk_nodes.proofs.writing.append_node.Goals as goal

pub returns-in_err-append-clause-text : goal.returns-in_err-append-clause-text
returns-in_err-append-clause-text g c =
    let trees = g.S.Store.trees c.args.store.now in
    let nodes = nodes_at trees c.args.table.now in
    let op = op_text c.look-node.result.op.now in
    let kids = kids_text nodes (kid_trees trees c.look-node.result.kids.now) in
    let none = line_left c.args.out.now.items (decimal c.args.number) op kids in
    same_text (sym (ap (numbered_text c.args.number nodes) c.look-node.ensures.node))
    (failed c.from_residual.result c.from_residual.ensures.0 (partly (codes "node ") _ none c.in_err-append.ensures.begun))

pub returns-in_err-append_decimal-clause-text : goal.returns-in_err-append_decimal-clause-text
returns-in_err-append_decimal-clause-text g c =
    let trees = g.S.Store.trees c.args.store.now in
    let nodes = nodes_at trees c.args.table.now in
    let op = op_text c.look-node.result.op.now in
    let kids = kids_text nodes (kid_trees trees c.look-node.result.kids.now) in
    let none = line_left c.args.out.now.items (decimal c.args.number) op kids in
    let word = appended (codes "node ") _ none c.in_ok-append.ensures.ok in
    same_text (sym (ap (numbered_text c.args.number nodes) c.look-node.ensures.node))
    (failed c.from_residual-in_err-append_decimal.result c.from_residual-in_err-append_decimal.ensures.0 (partly (decimal c.args.number)
    _ word c.in_err-append_decimal.ensures.begun))

pub returns-in_err-append-2-clause-text : goal.returns-in_err-append-2-clause-text
returns-in_err-append-2-clause-text g c =
    let trees = g.S.Store.trees c.args.store.now in
    let nodes = nodes_at trees c.args.table.now in
    let op = op_text c.look-node.result.op.now in
    let kids = kids_text nodes (kid_trees trees c.look-node.result.kids.now) in
    let none = line_left c.args.out.now.items (decimal c.args.number) op kids in
    let word = appended (codes "node ") _ none c.in_ok-append.ensures.ok in
    let number = appended (decimal c.args.number) _ word c.in_ok-append_decimal.ensures.ok in
    same_text (sym (ap (numbered_text c.args.number nodes) c.look-node.ensures.node))
    (failed c.from_residual-in_err-append-2.result c.from_residual-in_err-append-2.ensures.0 (partly (codes " ") _ number c.in_err-append-2.ensures.begun))

pub returns-in_err-append_op-clause-text : goal.returns-in_err-append_op-clause-text
returns-in_err-append_op-clause-text g c =
    let trees = g.S.Store.trees c.args.store.now in
    let nodes = nodes_at trees c.args.table.now in
    let op = op_text c.look-node.result.op.now in
    let kids = kids_text nodes (kid_trees trees c.look-node.result.kids.now) in
    let none = line_left c.args.out.now.items (decimal c.args.number) op kids in
    let word = appended (codes "node ") _ none c.in_ok-append.ensures.ok in
    let number = appended (decimal c.args.number) _ word c.in_ok-append_decimal.ensures.ok in
    let space = appended (codes " ") _ number c.in_ok-append-2.ensures.ok in
    same_text (sym (ap (numbered_text c.args.number nodes) c.look-node.ensures.node))
    (failed c.from_residual-in_err-append_op.result c.from_residual-in_err-append_op.ensures.0 (partly op kids space c.in_err-append_op.ensures.begun))

pub returns-clause-text : goal.returns-clause-text
returns-clause-text g c =
    let trees = g.S.Store.trees c.args.store.now in
    let nodes = nodes_at trees c.args.table.now in
    let op = op_text c.look-node.result.op.now in
    let kids = kids_text nodes (kid_trees trees c.look-node.result.kids.now) in
    let none = line_left c.args.out.now.items (decimal c.args.number) op kids in
    let word = appended (codes "node ") _ none c.in_ok-append.ensures.ok in
    let number = appended (decimal c.args.number) _ word c.in_ok-append_decimal.ensures.ok in
    let space = appended (codes " ") _ number c.in_ok-append-2.ensures.ok in
    let one = g.met.S.Store.one_id c.requires.unique c.args.store.now in
    let same = kids_same trees one c.args.table.now c.requires.nodes c.look-node.result.kids.now c.look-node.ensures.known in
    same_text (sym (ap (numbered_text c.args.number nodes) c.look-node.ensures.node)) (last (appended op kids space c.in_ok-append_op.ensures.ok)
    (same_text same c.append_behind.ensures))
