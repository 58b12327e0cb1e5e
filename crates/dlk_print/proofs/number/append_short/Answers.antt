use Rattle.std.proofs.Common.{ℕ, arith, length-set}
use Rattle.dlk_print.proofs.Digits.{none_written, left_bound, places_left, one_more_written, all_written}
use Rattle.dlk_print.proofs.Left.{same_text}
use Rattle.dlk_print.proofs.number.append_short.Goals as goal

pub loop-left-init : goal.loop-left-init
loop-left-init c = none_written c.args.n c.requires

pub overflow_sub-first : goal.overflow_sub-first
overflow_sub-first c = omega (arith, places_left c.args.n c.loop-left.left c.loop-left.first c.loop-left.digits c.loop-left.invariant (omega arith))

pub loop-left-preserved : goal.loop-left-preserved
loop-left-preserved c =
    one_more_written c.args.n c.loop-left.left c.loop-left.first _ c.loop-left.digits c.loop-left.invariant (omega arith) (omega arith)

pub returns : goal.returns
returns c =
    same_text (all_written c.args.n c.loop-left.left c.loop-left.first _ _ c.loop-left.digits c.loop-left.invariant (omega arith) (omega arith)
    (omega (arith, c.loop-left.invariant.long, length-set {A = ℕ})))
    c.append.ensures
