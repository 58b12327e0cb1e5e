use Rattle.std.proofs.Common.{◌++◌, refl}
use Rattle.std.specs.Prelude.{codes}
use Rattle.std.proofs.lemmas.Result.{err_from_is_err_and}
use Rattle.dlk_lines.proofs.Numbers.{number_cut}
use Rattle.dlk_nodes.specs.Tables.{nodes_at}
use Rattle.dlk_lines.proofs.Refusals.{fault_of_whole}
use Rattle.dlk_nodes.proofs.ReadNode.{no_number, no_node, line_is}
use Rattle.dlk_nodes.proofs.node.node_line.Goals as goal

pub returns-in_default-clause-fault : goal.returns-in_default-clause-fault
returns-in_default-clause-fault g c =
    let nodes = nodes_at (g.S.Store.trees c.args.store.now) c.args.table.now in
    let text = c.args.text.now in
    no_number nodes (codes "node " ++ text) text refl c.in_default.ensures.none

pub returns-in_err-id-clause-fault : goal.returns-in_err-id-clause-fault
returns-in_err-id-clause-fault g c =
    let nodes = nodes_at (g.S.Store.trees c.args.store.now) c.args.table.now in
    let text = c.args.text.now in
    let digits = number_cut text 32 _ _ refl c.in-Some.ensures.found in
    let e = err_from_is_err_and c.from_residual.result c.from_residual.ensures.1 in
    rw (e.1, e.2) (fault_of_whole (no_node nodes (codes "node " ++ text) text refl _ _ digits) _ c.in_err-id.ensures.fault)

pub returns-clause-found : goal.returns-clause-found
returns-clause-found g c =
    let nodes = nodes_at (g.S.Store.trees c.args.store.now) c.args.table.now in
    let text = c.args.text.now in
    let number = c.in-Some.ensures.found in
    line_is nodes (codes "node " ++ text) text refl _ _ (number_cut text 32 _ _ refl number) _ _ number.is_number c.in_ok-id.ensures.found

pub returns-in_err-id-clause-memory : goal.returns-in_err-id-clause-memory
returns-in_err-id-clause-memory g c = λ is. record {
  text = c.args.text.now;
  number = c.in-Some.number;
  rest = c.in-Some.node.now;
  line_is = refl;
  number_is = c.in-Some.ensures.found;
}
