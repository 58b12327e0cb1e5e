use Rattle.std.proofs.Common.{arith}
use Rattle.dlk_kernel.proofs.GoalLists.{in_first, in_second, in_third}
use Rattle.dlk_kernel.proofs.goals.goal_of.Goals as goal

pub returns-then-number-before : goal.returns-then-number-before
returns-then-number-before c =
    in_first c.args.before.now c.args.new.now c.args.after.now c.args.number c.index-before-number.result (omega arith) c.index-before-number.is

pub returns-then-behind-new : goal.returns-then-behind-new
returns-then-behind-new c =
    in_second c.args.before.now c.args.new.now c.args.after.now c.args.number c.index-new-behind.result (omega arith) (omega arith) c.index-new-behind.is

pub returns : goal.returns
returns c =
    in_third c.args.before.now c.args.new.now c.args.after.now c.args.number c.index-after-behind.result (omega arith) (omega arith) c.index-after-behind.is
