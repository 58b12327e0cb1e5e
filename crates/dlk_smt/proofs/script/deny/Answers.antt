use Rattle.std.proofs.Common.{codes}
use Rattle.dlk_store.specs.Stores.{tree}
use Rattle.dlk_print.proofs.Left.{unbegun, appended, last}
use Rattle.dlk_smt.specs.Smt.{shown, expression}
use Rattle.dlk_smt.proofs.Parts.{denial_parts}
use Rattle.dlk_smt.proofs.script.deny.Goals as goal

pub returns : goal.returns
returns g c =
    let text = shown (expression (tree (g.S.Store.trees c.args.store.now) c.args.id)) in
    let none = unbegun c.args.out.now.items (denial_parts text) in
    let opened = appended (codes "(assert (not ") _ none c.in_ok-append.ensures.ok in
    let formula = appended text _ opened c.in_ok-append_expression.ensures in
    (last formula c.append-2.ensures).ok
