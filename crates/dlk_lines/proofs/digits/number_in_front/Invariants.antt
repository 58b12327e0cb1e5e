use Rattle.std.proofs.Common.{◌-◌, length}
use Rattle.dlk_lines.proofs.Numbers.{DigitsRead}
use Rattle.dlk_lines.proofs.digits.number_in_front.Given as goal

abbrev pub invariant-loop-place : goal.invariant-loop-place
invariant-loop-place l = DigitsRead l.text l.place l.number

abbrev pub decreases-loop-place : goal.decreases-loop-place
decreases-loop-place l = length l.text - l.place
