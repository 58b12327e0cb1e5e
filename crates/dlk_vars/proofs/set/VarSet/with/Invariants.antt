use Rattle.std.proofs.Common.{◌≡◌, ℕ, ◌<◌, ◌*◌, ◌/◌, ◌%◌, ◌^◌, ◌==◌, cond, length, get_or, bit_or}
use Rattle.dlk_vars.specs.Rows.{word}
use Rattle.dlk_vars.proofs.set.VarSet.with.Given as goal

-- the words so far are those of the set, with the number's bit
abbrev pub invariant-loop-k : goal.invariant-loop-k
invariant-loop-k l = record {
  count : length l.words.items ≡ l.k;
  made : (j d : ℕ) → j < l.k → get_or l.words.items j d ≡ cond (j == l.n.0 / 64) (bit_or (word l.self j) (1 * 2 ^ (l.n.0 % 64) % 2 ^ 64)) (word l.self j);
}
