use Rattle.std.proofs.Common.{arith}
use Rattle.std.proofs.lemmas.Bool.{both_ways}
use Rattle.dlk_sequent.proofs.SameSides.{same_at}
use Rattle.dlk_sequent.proofs.same.same_side.Goals as goal

pub returns-then-not-same : goal.returns-then-not-same
returns-then-not-same g c = (
  λ e. cc,
  λ e. absurd (both_ways c.same.result c.if-not-same.true
      (c.same.ensures.1 (same_at (g.S.Store.trees c.args.store.now) c.args.a.now c.args.b.now c.loop-i.i _ c.loop-i-test.true
      (omega (arith, c.loop-i-test.true, c.if-a-b.false)) e))),
)
