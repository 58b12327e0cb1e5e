use Rattle.std.proofs.Common.{[], ◌∷◌}
use Rattle.dlk_print.proofs.Left.{failed, partly}
use Rattle.dlk_print.proofs.Formulas.{unbegun_right}
use Rattle.dlk_print.proofs.sequent.right_side.Goals as goal

pub returns-in_err-append-clause-text : goal.returns-in_err-append-clause-text
returns-in_err-append-clause-text g c =
    let none = unbegun_right c.args.out.now.items (g.S.Store.trees c.args.store.now) c.args.ids.now c.if-is_empty.ensures in
    failed c.from_residual.result c.from_residual.ensures.0 (partly (32 ∷ []) _ none c.in_err-append.ensures.begun)
