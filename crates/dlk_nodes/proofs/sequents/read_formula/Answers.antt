use Rattle.std.proofs.lemmas.Bool.{both_ways}
use Rattle.dlk_store.specs.Stores.{IsId, tree}
use Rattle.dlk_nodes.specs.Tables.{nodes_at}
use Rattle.dlk_nodes.proofs.FormulasRead.{formula_node, formula_sort, parts_formula}
use Rattle.dlk_nodes.proofs.Numbered.{names_at}
use Rattle.dlk_nodes.proofs.SidesRead.{none_named, named_is}
use Rattle.dlk_nodes.proofs.sequents.read_formula.Goals as goal

pub returns-in_default-node_numbered-clause-fault : goal.returns-in_default-node_numbered-clause-fault
returns-in_default-node_numbered-clause-fault g c =
    let trees = g.S.Store.trees c.args.store.now in
    formula_node (nodes_at trees c.args.table.now) c.args.text.now _ c.in-Some.ensures.found
    (none_named (tree trees) c.args.table.now _ c.in_default-node_numbered.ensures)

pub is_formula-requires : goal.is_formula-requires
is_formula-requires g c = named_is (IsId (g.S.Store.trees c.args.store.now)) c.args.table.now _ _ c.requires c.in-Some-node_numbered.ensures

pub returns-then-not-is_formula-clause-fault : goal.returns-then-not-is_formula-clause-fault
returns-then-not-is_formula-clause-fault g c =
    let trees = g.S.Store.trees c.args.store.now in
    formula_sort (nodes_at trees c.args.table.now) c.args.text.now _ c.in-Some.ensures.found _
    (names_at (tree trees) c.args.table.now _ _ c.in-Some-node_numbered.ensures)
    (λ is. both_ways c.is_formula.result c.if-not-is_formula.true (c.is_formula.ensures.no is))

pub returns-clause-found : goal.returns-clause-found
returns-clause-found g c =
    let trees = g.S.Store.trees c.args.store.now in
    parts_formula (nodes_at trees c.args.table.now) c.args.text.now _ (record {
      digits = c.in-Some.digits.now;
      text_is = c.in-Some.ensures.found;
      names = names_at (tree trees) c.args.table.now _ _ c.in-Some-node_numbered.ensures;
      sort_is = c.is_formula.ensures.yes c.if-not-is_formula.false;
    })

pub returns-clause-known : goal.returns-clause-known
returns-clause-known g c = named_is (IsId (g.S.Store.trees c.args.store.now)) c.args.table.now _ _ c.requires c.in-Some-node_numbered.ensures
