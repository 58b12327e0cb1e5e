use Rattle.std.proofs.Common.{arith}
use Rattle.dlk_print.proofs.Left.{partly, appended}
use Rattle.dlk_print.proofs.Paired.{at_pair, sizes_from}
use Rattle.dlk_print.proofs.pairs.pairs_text.Goals as goal

pub returns-in_err-append-clause-memory : goal.returns-in_err-append-clause-memory
returns-in_err-append-clause-memory g c =
    let at = at_pair (g.S.Store.trees c.args.store.now) c.args.pairs.now c.loop-i.i c.index-pairs-i.result c.index-pairs-i.is c.loop-i-test.true
    c.loop-i.invariant.text in
    partly _ _ at (rw c.gap.ensures at c.in_err-append.ensures.begun)

pub returns-in_err-pair_text-clause-memory : goal.returns-in_err-pair_text-clause-memory
returns-in_err-pair_text-clause-memory g c =
    let at = at_pair (g.S.Store.trees c.args.store.now) c.args.pairs.now c.loop-i.i c.index-pairs-i.result c.index-pairs-i.is c.loop-i-test.true
    c.loop-i.invariant.text in
    let pair = appended _ _ at (rw c.gap.ensures at c.in_ok-append.ensures.ok) in
    partly _ _ pair c.in_err-pair_text.ensures.text.begun

pub returns-in_err-pair_text-clause-cost : goal.returns-in_err-pair_text-clause-cost
returns-in_err-pair_text-clause-cost g c =
    let sizes = sizes_from (g.S.Store.trees c.args.store.now) c.args.pairs.now c.loop-i.i c.index-pairs-i.result c.index-pairs-i.is c.loop-i-test.true in
    omega (arith, sizes, c.loop-i.invariant.cost, c.in_err-pair_text.ensures.cost)

pub loop-i-preserved : goal.loop-i-preserved
loop-i-preserved g c =
    let trees = g.S.Store.trees c.args.store.now in
    let at = at_pair trees c.args.pairs.now c.loop-i.i c.index-pairs-i.result c.index-pairs-i.is c.loop-i-test.true c.loop-i.invariant.text in
    let pair = appended _ _ at (rw c.gap.ensures at c.in_ok-append.ensures.ok) in
    let sizes = sizes_from trees c.args.pairs.now c.loop-i.i c.index-pairs-i.result c.index-pairs-i.is c.loop-i-test.true in
    record {
      text = appended _ _ pair c.in_ok-pair_text.ensures.text.ok;
      cost = omega (arith, sizes, c.loop-i.invariant.cost, c.in_ok-pair_text.ensures.cost);
    }
