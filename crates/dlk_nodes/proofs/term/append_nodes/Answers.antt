use Rattle.std.proofs.Common.{◌<◌, ◌++◌, length, codes, subst, arith, ◌∙◌, ap}
use Rattle.dlk_store.specs.Stores.{tree}
use Rattle.dlk_print.specs.Printed.{Begun}
use Rattle.dlk_print.proofs.Left.{failed, partly, appended}
use Rattle.dlk_nodes.specs.Tables.{nodes_at}
use Rattle.dlk_nodes.proofs.StepLines.{line_left, line_at, follow_next, as_many}
use Rattle.dlk_nodes.proofs.term.append_nodes.Goals as goal

pub returns-in_err-append_node-clause-text : goal.returns-in_err-append_node-clause-text
returns-in_err-append_node-clause-text g c =
    let trees = g.S.Store.trees c.args.store.now in
    let ids = c.args.table.now in
    let all = nodes_at trees ids in
    let place = c.loop-place.place in
    let less : place < length ids = omega (arith, c.loop-place-test.true, c.len-place-end.ensures) in
    let long : place < length all = omega (arith, less, as_many trees ids) in
    let begun = subst (λ l. Begun c.loop-place.out.items c.append_node.new.out.items l)
    (line_at trees ids c.ids.result.now place _ c.ids.ensures less c.loop-place.invariant.follow) c.in_err-append_node.ensures.text.begun in
    failed c.from_residual.result c.from_residual.ensures.0 (partly _ _ (line_left all place _ long c.loop-place.invariant.left) begun)

pub returns-in_err-append-clause-text : goal.returns-in_err-append-clause-text
returns-in_err-append-clause-text g c =
    let trees = g.S.Store.trees c.args.store.now in
    let ids = c.args.table.now in
    let all = nodes_at trees ids in
    let place = c.loop-place.place in
    let less : place < length ids = omega (arith, c.loop-place-test.true, c.len-place-end.ensures) in
    let long : place < length all = omega (arith, less, as_many trees ids) in
    let line = c.in_ok-append_node.ensures.text.ok
    ∙ ap (λ l. c.loop-place.out.items ++ l) (line_at trees ids c.ids.result.now place _ c.ids.ensures less c.loop-place.invariant.follow) in
    failed c.from_residual-in_err-append.result c.from_residual-in_err-append.ensures.0
    (partly (codes "\n") _ (appended _ _ (line_left all place _ long c.loop-place.invariant.left) line) c.in_err-append.ensures.begun)

pub loop-place-preserved : goal.loop-place-preserved
loop-place-preserved g c =
    let trees = g.S.Store.trees c.args.store.now in
    let ids = c.args.table.now in
    let all = nodes_at trees ids in
    let place = c.loop-place.place in
    let less : place < length ids = omega (arith, c.loop-place-test.true, c.len-place-end.ensures) in
    let long : place < length all = omega (arith, less, as_many trees ids) in
    let line = c.in_ok-append_node.ensures.text.ok
    ∙ ap (λ l. c.loop-place.out.items ++ l) (line_at trees ids c.ids.result.now place _ c.ids.ensures less c.loop-place.invariant.follow) in
    record {
      left = appended (codes "\n") _ (appended _ _ (line_left all place _ long c.loop-place.invariant.left) line) c.in_ok-append.ensures.ok;
      follow = follow_next all place (tree trees (record { 0 = 0 })) long c.loop-place.invariant.follow;
      looks = omega (arith, c.in_ok-append_node.ensures.cost, c.loop-place.invariant.looks, c.loop-place.auto.place);
    }
