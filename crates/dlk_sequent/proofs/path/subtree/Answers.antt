use Rattle.std.proofs.Common.{arith}
use Rattle.dlk_sequent.proofs.Turns.{walked_out, walked_on}
use Rattle.dlk_sequent.proofs.path.subtree.Goals as goal

pub returns-in_default-clause-found : goal.returns-in_default-clause-found
returns-in_default-clause-found g c =
    walked_out (g.S.Store.trees c.args.store.now) c.args.id c.args.path.now c.loop-kid.at c.loop-kid.kid-index 0 c.loop-kid.invariant.walked
    c.loop-kid-test.true
    c.in_default.ensures.kid

pub loop-kid-preserved : goal.loop-kid-preserved
loop-kid-preserved g c =
    record {
      walked = walked_on (g.S.Store.trees c.args.store.now) c.args.id c.args.path.now c.loop-kid.at c.loop-kid.kid-index 0 c.loop-kid.invariant.walked
          c.loop-kid-test.true c.in-Some.next c.in-Some.ensures.kid;
      cost = omega (arith, c.loop-kid.invariant.cost, c.in-Some.ensures.cost);
    }
