use Rattle.std.proofs.Common.{[], ◌∷◌}
use Rattle.dlk_print.proofs.Left.{failed, partly, appended, last}
use Rattle.dlk_print.proofs.Symbols.{unbegun_dots, at_dot, past_dots}
use Rattle.dlk_print.proofs.symbol.append_dots.Goals as goal

pub returns-in_err-append : goal.returns-in_err-append
returns-in_err-append c =
    failed c.from_residual.result c.from_residual.ensures.0 (partly (40 ∷ []) _ (unbegun_dots c.args.out.now.items c.args.count) c.in_err-append.ensures.begun)

pub loop-i-init : goal.loop-i-init
loop-i-init c = appended (40 ∷ []) _ (unbegun_dots c.args.out.now.items c.args.count) c.in_ok-append.ensures.ok

pub returns-in_err-append-2 : goal.returns-in_err-append-2
returns-in_err-append-2 c =
    let at = at_dot c.loop-i.i c.args.count c.loop-i-test.true c.loop-i.invariant in
    failed c.from_residual-in_err-append-2.result c.from_residual-in_err-append-2.ensures.0
    (partly _ _ at (rw (c.gap.ensures, c.from.ensures) at c.in_err-append-2.ensures.begun))

pub returns-in_err-append_dot : goal.returns-in_err-append_dot
returns-in_err-append_dot c =
    let at = at_dot c.loop-i.i c.args.count c.loop-i-test.true c.loop-i.invariant in
    let dot = appended _ _ at (rw (c.gap.ensures, c.from.ensures) at c.in_ok-append-2.ensures.ok) in
    failed c.from_residual-in_err-append_dot.result c.from_residual-in_err-append_dot.ensures.0 (partly _ _ dot c.in_err-append_dot.ensures.begun)

pub loop-i-preserved : goal.loop-i-preserved
loop-i-preserved c =
    let at = at_dot c.loop-i.i c.args.count c.loop-i-test.true c.loop-i.invariant in
    let dot = appended _ _ at (rw (c.gap.ensures, c.from.ensures) at c.in_ok-append-2.ensures.ok) in
    appended _ _ dot c.in_ok-append_dot.ensures.ok

pub returns : goal.returns
returns c = last (past_dots c.loop-i.i c.args.count c.loop-i-test.false c.loop-i.invariant) c.append-2.ensures
