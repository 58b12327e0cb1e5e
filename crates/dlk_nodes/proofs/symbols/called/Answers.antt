use Rattle.std.proofs.Common.{sym, subst}
use Rattle.std.proofs.lemmas.Result.{err_from_is_err_and}
use Rattle.dlk_nodes.specs.Symbols.{AreDots}
use Rattle.dlk_lines.proofs.Refusals.{fault_of_whole, err_of_whole}
use Rattle.dlk_nodes.proofs.SymbolForms.{dots_wanted, symbol_wanted, bars_wanted, name_wanted, taboo_wanted, unit_found}
use Rattle.dlk_nodes.proofs.symbols.called.Goals as goal
use Rattle.dlk_nodes.proofs.SymbolBack.{sym_of}

pub returns-in_default-arity-clause-fault : goal.returns-in_default-arity-clause-fault
returns-in_default-arity-clause-fault c =
    dots_wanted c.args.applied c.args.unit c.requires c.args.text.now c.in-Some.x.now c.in-Some.rest.now c.in-Some.ensures.found
    c.in_default-behind.ensures.none c.in_default-arity.ensures.none

pub returns-in_default-behind-clause-fault : goal.returns-in_default-behind-clause-fault
returns-in_default-behind-clause-fault c =
    let are : AreDots c.in-Some.rest.now c.from.result = subst (AreDots c.in-Some.rest.now) (sym c.from.ensures) c.in-Some-arity.ensures.found in
    err_of_whole (symbol_wanted c.args.applied c.args.unit c.requires c.args.text.now c.in-Some.x.now c.in-Some.rest.now c.in-Some.ensures.found
    c.in_default-behind.ensures.none c.from.result are) _ c.symbol.ensures.fault

pub returns-in_default-before-clause-fault : goal.returns-in_default-before-clause-fault
returns-in_default-before-clause-fault c =
    bars_wanted c.args.applied c.args.unit c.requires c.args.text.now c.in-Some.x.now c.in-Some.rest.now c.in-Some.ensures.found c.in-Some-behind.inner.now
    c.in-Some-behind.ensures.found c.in_default-before.ensures.none

pub returns-in_err-name-clause-fault : goal.returns-in_err-name-clause-fault
returns-in_err-name-clause-fault c =
    let e = err_from_is_err_and c.from_residual.result c.from_residual.ensures.1 in
    rw (e.1, e.2) (fault_of_whole (name_wanted c.args.applied c.args.unit c.requires c.args.text.now c.in-Some.x.now c.in-Some.rest.now
    c.in-Some.ensures.found c.in-Some-behind.inner.now c.in-Some-behind.ensures.found) _ c.in_err-name.ensures.fault)

pub returns-in_err-taboo-clause-fault : goal.returns-in_err-taboo-clause-fault
returns-in_err-taboo-clause-fault c =
    let e = err_from_is_err_and c.from_residual-in_err-taboo.result c.from_residual-in_err-taboo.ensures.1 in
    rw (e.1, e.2) (fault_of_whole (taboo_wanted c.args.applied c.args.unit c.requires c.args.text.now c.in-Some.x.now c.in-Some.rest.now
    c.in-Some.ensures.found c.in-Some-behind.inner.now c.in-Some-behind.ensures.found c.in-Some-before.y.now c.in-Some-before.ensures.found) _
    c.in_err-taboo.ensures.fault)

pub returns-clause-found : goal.returns-clause-found
returns-clause-found c =
    unit_found c.args.applied c.args.unit c.requires c.args.text.now c.in-Some.x.now c.in-Some.rest.now c.in-Some.ensures.found
    c.in-Some-behind.inner.now c.in-Some-behind.ensures.found c.in-Some-before.y.now c.in-Some-before.ensures.found c.in_ok-taboo.taboo _
    c.in_ok-name.ensures.real c.in_ok-taboo.ensures.found (λ i. sym_of c.args.unit (c.in_ok-name.ensures.found i) 0 c.in_ok-taboo.taboo)
