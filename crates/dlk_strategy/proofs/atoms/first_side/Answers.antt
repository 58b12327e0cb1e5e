use Rattle.dlk_strategy.proofs.Locators.{side_here, side_later, side_nowhere}
use Rattle.dlk_strategy.proofs.atoms.first_side.Goals as goal

pub loop-arg-preserved : goal.loop-arg-preserved
loop-arg-preserved c =
    side_later c.args.args.now c.loop-arg.arg-index c.arg-item.result c.locator_side-found.result c.loop-arg.invariant c.loop-arg-test.true c.arg-item.is
    c.locator_side-found.ensures (cc)

pub returns : goal.returns
returns c = side_nowhere c.args.args.now c.loop-arg.arg-index c.loop-arg.invariant c.loop-arg-test.false

pub returns-then-is_some : goal.returns-then-is_some
returns-then-is_some c =
    side_here c.args.args.now c.loop-arg.arg-index c.arg-item.result c.locator_side-found.result c.loop-arg.invariant c.loop-arg-test.true c.arg-item.is
    c.locator_side-found.ensures (cc)
