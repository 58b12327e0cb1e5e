use Rattle.dlk_print.proofs.Left.{failed, partly, appended, last}
use Rattle.dlk_print.proofs.Formulas.{unbegun_left}
use Rattle.dlk_print.proofs.sequent.left_side.Goals as goal

pub returns-in_err-formulas-clause-text : goal.returns-in_err-formulas-clause-text
returns-in_err-formulas-clause-text g c =
    let none = unbegun_left c.args.out.now.items (g.S.Store.trees c.args.store.now) c.args.ids.now c.if-is_empty.ensures in
    failed c.from_residual.result c.from_residual.ensures.0 (partly _ _ none c.in_err-formulas.ensures.text.begun)

pub returns-clause-text : goal.returns-clause-text
returns-clause-text g c =
    let none = unbegun_left c.args.out.now.items (g.S.Store.trees c.args.store.now) c.args.ids.now c.if-is_empty.ensures in
    last (appended _ _ none c.in_ok-formulas.ensures.text.ok) c.append.ensures
