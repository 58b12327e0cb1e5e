use Rattle.std.proofs.Common.{◌≡◌, ◌++◌, take}
use Rattle.dlk_sequent.proofs.shared.append.Given as goal

-- the first values were added
abbrev pub invariant-loop-item : goal.invariant-loop-item
invariant-loop-item g l = l.into.items ≡ l.fn.into.items ++ take l.item-index l.from
