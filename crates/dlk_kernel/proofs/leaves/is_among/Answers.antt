use Rattle.std.proofs.Common.{refl}
use Rattle.std.proofs.lemmas.Bool.{both_ways}
use Rattle.dlk_sequent.specs.Sequents.{sequent_at}
use Rattle.dlk_kernel.proofs.LeafLaws.{is_here, is_behind, none_left}
use Rattle.dlk_kernel.proofs.leaves.is_among.Goals as goal

pub same_sequent-requires-clause-second : goal.same_sequent-requires-clause-second
same_sequent-requires-clause-second g c =
    rw c.value.ensures (rw (← c.t-item.is) at (c.requires.all c.loop-t.t-index c.t-item.result c.loop-t-test.true))

pub loop-t-preserved : goal.loop-t-preserved
loop-t-preserved g c =
    let behind = is_behind (g.S.Store.trees c.args.store.now) c.args.all.now c.loop-t.t-index c.t-item.result c.loop-t-test.true c.t-item.is
    (sequent_at (g.S.Store.trees c.args.store.now) c.args.s.now)
    (λ e. absurd (both_ways c.same_sequent.result c.if-same_sequent.false ((rw c.value.ensures at c.same_sequent.ensures.1) e))) in
    ((λ a. behind.0 (c.loop-t.invariant.0 a)), (λ b. c.loop-t.invariant.1 (behind.1 b)))

pub returns-then-same_sequent : goal.returns-then-same_sequent
returns-then-same_sequent g c = (
  λ t. c.loop-t.invariant.1 (is_here (g.S.Store.trees c.args.store.now) c.args.all.now c.loop-t.t-index c.t-item.result c.loop-t-test.true c.t-item.is
      _ ((rw c.value.ensures at c.same_sequent.ensures.0) c.if-same_sequent.true)),
  λ a. refl,
)

pub returns : goal.returns
returns g c = (
  λ t. absurd (cc),
  λ a. absurd (none_left (g.S.Store.trees c.args.store.now) c.args.all.now c.loop-t.t-index _ c.loop-t-test.false (c.loop-t.invariant.0 a)),
)
