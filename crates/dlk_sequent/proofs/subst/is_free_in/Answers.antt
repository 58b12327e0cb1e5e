use Rattle.std.proofs.Common.{get_or, sym, refl, subst}
use Rattle.std.proofs.lemmas.Bool.{both_ways}
use Rattle.dlk_sequent.proofs.Pairs.{IsFree, free_at, free_later, free_nowhere}
use Rattle.dlk_sequent.proofs.subst.is_free_in.Goals as goal

pub returns-then-is_free : goal.returns-then-is_free
returns-then-is_free g c =
    let trees = g.S.Store.trees c.args.store.now in
    let free = subst (IsFree trees) c.pair-item.is (c.is_free.ensures.0 c.if-is_free.true) in
    (λ _. free_at trees c.args.pairs.now c.loop-pair.pair-index c.pair-item.result c.loop-pair-test.true free, λ _. refl)

pub loop-pair-preserved : goal.loop-pair-preserved
loop-pair-preserved g c = λ h.
    let trees = g.S.Store.trees c.args.store.now in
    let bare = λ (free : IsFree trees (get_or c.args.pairs.now c.loop-pair.pair-index c.pair-item.result)).
    both_ways c.is_free.result c.if-is_free.false (c.is_free.ensures.1 (subst (IsFree trees) (sym c.pair-item.is) free)) in
    free_later trees c.args.pairs.now c.loop-pair.pair-index c.pair-item.result c.loop-pair-test.true bare (c.loop-pair.invariant h)

pub returns : goal.returns
returns g c =
    let trees = g.S.Store.trees c.args.store.now in
    (λ e. cc, λ h. absurd (free_nowhere trees c.args.pairs.now c.loop-pair.pair-index c.loop-pair-test.false (c.loop-pair.invariant h)))
