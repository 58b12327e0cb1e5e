use Rattle.std.proofs.Common.{arith}
use Rattle.dlk_link.proofs.Front.{none_old, one_more_old}
use Rattle.dlk_link.proofs.trimming.unmoved.Goals as goal

pub loop-row-init : goal.loop-row-init
loop-row-init c = none_old c.args.numbers.now

pub loop-row-preserved : goal.loop-row-preserved
loop-row-preserved c = one_more_old c.args.numbers.now c.loop-row.row c.loop-row-test.true (omega arith) c.loop-row.invariant
