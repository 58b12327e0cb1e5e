use Rattle.std.proofs.Common.{◌≡◌, false, sym, ap, subst, ◌∙◌}
use Rattle.std.proofs.lemmas.Result.{err_from_is_err_and}
use Rattle.dlk_tree.specs.Trees.{sort}
use Rattle.dlk_calculus.specs.Pairs.{is_of_kind}
use Rattle.dlk_store.specs.Stores.{IsId, tree}
use Rattle.dlk_nodes.specs.Symbols.{SpellsOfSort}
use Rattle.dlk_nodes.specs.Tables.{nodes_at}
use Rattle.dlk_nodes.proofs.Numbered.{names_at}
use Rattle.dlk_nodes.proofs.PairsFound.{sign_wanted, node_wanted, symbol_wanted, kind_wanted, pair_is}
use Rattle.dlk_lines.proofs.Refusals.{fault_of_whole}
use Rattle.dlk_nodes.proofs.SidesRead.{none_named, named_is}
use Rattle.dlk_nodes.proofs.pairs.first_pair.Goals as goal

pub returns-in_default-behind-clause-fault : goal.returns-in_default-behind-clause-fault
returns-in_default-behind-clause-fault g c =
    sign_wanted (nodes_at (g.S.Store.trees c.args.store.now) c.args.table.now) c.args.text.now _ _ c.in-Some.ensures.found c.in_default-behind.ensures.none

pub returns-in_default-node_numbered-clause-fault : goal.returns-in_default-node_numbered-clause-fault
returns-in_default-node_numbered-clause-fault g c =
    let trees = g.S.Store.trees c.args.store.now in
    node_wanted (nodes_at trees c.args.table.now) c.args.text.now _ _ c.in-Some.ensures.found _ _ _ c.in-Some-behind.ensures.found c.up_to_comma.ensures
    (none_named (tree trees) c.args.table.now _ c.in_default-node_numbered.ensures)

pub look-root-requires : goal.look-root-requires
look-root-requires g c = named_is (IsId (g.S.Store.trees c.args.store.now)) c.args.table.now _ _ c.requires c.in-Some-node_numbered.ensures

pub returns-in_err-sym-clause-fault : goal.returns-in_err-sym-clause-fault
returns-in_err-sym-clause-fault g c =
    let trees = g.S.Store.trees c.args.store.now in
    let by = c.in-Some-node_numbered.by in
    let e = err_from_is_err_and c.from_residual.result c.from_residual.ensures.1 in
    let its_sort : sort (tree trees by) ≡ c.sort_of.result = ap sort c.look-root.ensures.node ∙ sym c.sort_of.ensures in
    rw (e.1, e.2)
    (fault_of_whole (λ none. symbol_wanted (nodes_at trees c.args.table.now) c.args.text.now _ _ c.in-Some.ensures.found _ _ _ c.in-Some-behind.ensures.found
    c.up_to_comma.ensures (tree trees by) (names_at (tree trees) c.args.table.now _ by c.in-Some-node_numbered.ensures)
    (λ s w. none s (subst (λ r. SpellsOfSort r c.in-Some.left.now s) its_sort w))) _ c.in_err-sym.ensures.fault)

pub returns-then-not-suits-clause-fault : goal.returns-then-not-suits-clause-fault
returns-then-not-suits-clause-fault g c =
    let trees = g.S.Store.trees c.args.store.now in
    let by = c.in-Some-node_numbered.by in
    let its_sort : sort (tree trees by) ≡ c.sort_of.result = ap sort c.look-root.ensures.node ∙ sym c.sort_of.ensures in
    let fails : is_of_kind c.in_ok-sym.sym.kind (tree trees by) ≡ false = ap (is_of_kind c.in_ok-sym.sym.kind) c.look-root.ensures.node
    ∙ sym c.if-not-suits.ensures in
    kind_wanted (nodes_at trees c.args.table.now) c.args.text.now _ _ c.in-Some.ensures.found _ _ _ c.in-Some-behind.ensures.found
    c.up_to_comma.ensures (tree trees by) (names_at (tree trees) c.args.table.now _ by c.in-Some-node_numbered.ensures) c.in_ok-sym.sym
    (subst (λ r. SpellsOfSort r c.in-Some.left.now c.in_ok-sym.sym) (sym its_sort) c.in_ok-sym.ensures.found) fails

pub returns-clause-found : goal.returns-clause-found
returns-clause-found g c =
    let trees = g.S.Store.trees c.args.store.now in
    let by = c.in-Some-node_numbered.by in
    let its_sort : sort (tree trees by) ≡ c.sort_of.result = ap sort c.look-root.ensures.node ∙ sym c.sort_of.ensures in
    pair_is (nodes_at trees c.args.table.now) c.args.text.now _ _ c.in-Some.ensures.found _ _ _ c.in-Some-behind.ensures.found
    c.up_to_comma.ensures (tree trees by) (names_at (tree trees) c.args.table.now _ by c.in-Some-node_numbered.ensures) c.in_ok-sym.sym
    (subst (λ r. SpellsOfSort r c.in-Some.left.now c.in_ok-sym.sym) (sym its_sort) c.in_ok-sym.ensures.found)
    (ap (is_of_kind c.in_ok-sym.sym.kind) c.look-root.ensures.node ∙ sym c.if-not-suits.ensures)

pub returns-clause-known : goal.returns-clause-known
returns-clause-known g c = named_is (IsId (g.S.Store.trees c.args.store.now)) c.args.table.now _ _ c.requires c.in-Some-node_numbered.ensures
