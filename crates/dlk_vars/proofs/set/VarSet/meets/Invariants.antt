use Rattle.std.proofs.Common.{◌≡◌, ℕ, ◌<◌, ◌≤◌, ◌-◌, bit_and}
use Rattle.dlk_vars.specs.Rows.{word}
use Rattle.dlk_vars.proofs.set.VarSet.meets.Given as goal

-- the words so far have nothing in common
abbrev pub invariant-loop-at : goal.invariant-loop-at
invariant-loop-at l = record { within : l.at ≤ l.len; apart : (j : ℕ) → j < l.at → bit_and (word l.self j) (word l.other j) ≡ 0 }

abbrev pub decreases-loop-at : goal.decreases-loop-at
decreases-loop-at l = l.len - l.at

abbrev pub invariant-loop-k : goal.invariant-loop-k
invariant-loop-k l = (j : ℕ) → j < l.k → bit_and (word l.self j) (word l.other j) ≡ 0
