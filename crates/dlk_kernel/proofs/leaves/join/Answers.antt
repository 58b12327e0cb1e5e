use Rattle.std.proofs.Common.{◌≡◌, length, arith}
use Rattle.std.specs.List.{All}
use Rattle.std.proofs.lemmas.Result.{IfOk-weaker}
use Rattle.dlk_sequent.specs.Sequents.{IsKnown}
use Rattle.dlk_kernel.proofs.LeafLaws.{old_shared, more_shared}
use Rattle.dlk_kernel.proofs.leaves.join.Goals as goal

pub returns-then-is_empty-clause-joined : goal.returns-then-is_empty-clause-joined
returns-then-is_empty-clause-joined g c =
    let none : length c.args.more.now ≡ 0 =
    rw (← c.value.ensures, ← c.as_slice.ensures) (grind (arith, c.if-is_empty.true, c.is_empty.ensures)) in
    old_shared (g.S.Store.trees c.args.store.now) c.args.old.now c.args.more.now c.share.result none c.share.ensures

pub returns-then-is_empty-clause-known : goal.returns-then-is_empty-clause-known
returns-then-is_empty-clause-known g c =
    IfOk-weaker c.share.result (λ all. all ≡ c.args.old.now) (All (IsKnown (g.S.Store.trees c.args.store.now)))
    (λ all e. rw e c.requires.old) c.share.ensures

pub returns-then-is_empty-2-clause-joined : goal.returns-then-is_empty-2-clause-joined
returns-then-is_empty-2-clause-joined g c =
    let none : length c.args.old.now ≡ 0 =
    rw (← c.value-2.ensures, ← c.as_slice-2.ensures) (grind (arith, c.if-is_empty-2.true, c.is_empty-2.ensures)) in
    more_shared (g.S.Store.trees c.args.store.now) c.args.old.now c.args.more.now c.share-then-is_empty-2.result none c.share-then-is_empty-2.ensures

pub returns-then-is_empty-2-clause-known : goal.returns-then-is_empty-2-clause-known
returns-then-is_empty-2-clause-known g c =
    IfOk-weaker c.share-then-is_empty-2.result (λ all. all ≡ c.args.more.now) (All (IsKnown (g.S.Store.trees c.args.store.now)))
    (λ all e. rw e c.requires.more) c.share-then-is_empty-2.ensures

pub append_new-requires-clause-old : goal.append_new-requires-clause-old
append_new-requires-clause-old g c = rw c.value-3.ensures c.requires.old

pub append_new-requires-clause-more : goal.append_new-requires-clause-more
append_new-requires-clause-more g c = rw (c.as_slice-3.ensures, c.value-4.ensures) c.requires.more
