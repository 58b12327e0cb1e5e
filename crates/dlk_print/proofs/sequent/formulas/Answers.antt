use Rattle.std.proofs.Common.{arith, [], ◌∷◌}
use Rattle.dlk_store.specs.declared.Id.{Id}
use Rattle.dlk_grammar.specs.Shown.{mark, space}
use Rattle.dlk_grammar.specs.declared.token.Mark.TheVariants.{Comma}
use Rattle.dlk_print.proofs.Left.{failed, partly, appended}
use Rattle.dlk_print.proofs.Formulas.{at_formula, sizes_at}
use Rattle.dlk_print.proofs.sequent.formulas.Goals as goal

pub returns-in_err-append-clause-text : goal.returns-in_err-append-clause-text
returns-in_err-append-clause-text g c =
    let d : Id = record { 0 = 0 } in
    let at = at_formula (g.S.Store.trees c.args.store.now) (mark Comma ∷ space ∷ []) c.args.ids.now c.loop-i.i d c.loop-i-test.true c.loop-i.invariant.text in
    failed c.from_residual.result c.from_residual.ensures.0 (partly _ _ at (rw c.gap.ensures at c.in_err-append.ensures.begun))

pub returns-in_err-text-clause-text : goal.returns-in_err-text-clause-text
returns-in_err-text-clause-text g c =
    let d : Id = record { 0 = 0 } in
    let at = at_formula (g.S.Store.trees c.args.store.now) (mark Comma ∷ space ∷ []) c.args.ids.now c.loop-i.i d c.loop-i-test.true c.loop-i.invariant.text in
    let formula = appended _ _ at (rw c.gap.ensures at c.in_ok-append.ensures.ok) in
    failed c.from_residual-in_err-text.result c.from_residual-in_err-text.ensures.0 (partly _ _ formula c.in_err-text.ensures.memory)

pub returns-in_err-text-clause-cost : goal.returns-in_err-text-clause-cost
returns-in_err-text-clause-cost g c =
    let d : Id = record { 0 = 0 } in
    let sizes = sizes_at (g.S.Store.trees c.args.store.now) c.args.ids.now c.loop-i.i d c.loop-i-test.true in
    omega (arith, sizes, c.loop-i.invariant.cost, c.in_err-text.ensures.cost)

pub loop-i-preserved : goal.loop-i-preserved
loop-i-preserved g c =
    let d : Id = record { 0 = 0 } in
    let trees = g.S.Store.trees c.args.store.now in
    let at = at_formula trees (mark Comma ∷ space ∷ []) c.args.ids.now c.loop-i.i d c.loop-i-test.true c.loop-i.invariant.text in
    let formula = appended _ _ at (rw c.gap.ensures at c.in_ok-append.ensures.ok) in
    let sizes = sizes_at trees c.args.ids.now c.loop-i.i d c.loop-i-test.true in
    record {
      text = appended _ _ formula c.in_ok-text.ensures.ok;
      cost = omega (arith, sizes, c.loop-i.invariant.cost, c.in_ok-text.ensures.cost);
    }
