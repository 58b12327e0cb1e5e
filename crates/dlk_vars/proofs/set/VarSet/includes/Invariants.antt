use Rattle.std.proofs.Common.{◌≡◌, ℕ, ◌<◌, ◌^◌}
use Rattle.dlk_vars.specs.Rows.{word}
use Rattle.dlk_vars.proofs.Words.{left_over}
use Rattle.dlk_vars.proofs.set.VarSet.includes.Given as goal

-- no number of the words so far is left over
abbrev pub invariant-loop-k : goal.invariant-loop-k
invariant-loop-k l = record {
  none : (j : ℕ) → j < l.k → left_over l.self l.other j ≡ 0;
  small : (j : ℕ) → j < l.k → word l.self j < 2 ^ 64;
}
