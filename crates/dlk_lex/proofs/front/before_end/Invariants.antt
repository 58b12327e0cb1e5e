use Rattle.std.proofs.Common.{◌≡◌, ℕ, ◌+◌, ◌<◌, get_or}
use Rattle.dlk_lex.proofs.front.before_end.Given as goal

-- no end so far
abbrev pub invariant-loop-n : goal.invariant-loop-n
invariant-loop-n l = (k : ℕ) → k + 1 < l.n → get_or l.bytes k 0 ≡ 42 → ¬ (get_or l.bytes (k + 1) 0 ≡ 47)
