use Rattle.std.proofs.Common.{ℕ, ◌<◌, ◌^◌, bit_and, w64}
use Rattle.std.specs.Int.{bit_not}
use Rattle.dlk_vars.specs.Rows.{word}
use Rattle.dlk_vars.proofs.Words.{Joined}
use Rattle.dlk_vars.proofs.set.VarSet.minus.Given as goal

-- the words so far are those of the difference
abbrev pub invariant-loop-k : goal.invariant-loop-k
invariant-loop-k l = record {
  made : Joined (λ x y. bit_and x (bit_not w64 y)) l.self l.other l.words.items l.k;
  small : (j : ℕ) → j < l.k → word l.other j < 2 ^ 64;
}
