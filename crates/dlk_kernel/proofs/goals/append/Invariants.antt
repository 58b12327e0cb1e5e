use Rattle.std.proofs.Common.{◌≡◌, ◌++◌, take}
use Rattle.dlk_kernel.proofs.goals.append.Given as goal

-- the first goals were added
abbrev pub invariant-loop-goal : goal.invariant-loop-goal
invariant-loop-goal l = l.into.items ≡ l.fn.into.items ++ take l.goal-index l.from
