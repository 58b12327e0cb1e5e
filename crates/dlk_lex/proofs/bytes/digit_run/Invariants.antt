use Rattle.std.proofs.Common.{length, ◌-◌, ◌≡◌, ◌+◌, ◌≤◌, drop}
use Rattle.std.specs.List.{prefix_len}
use Rattle.dlk_grammar.specs.Tokens.{is_digit}
use Rattle.dlk_lex.proofs.bytes.digit_run.Given as goal

-- the run so far and the rest of it are the whole
abbrev pub invariant-loop-n : goal.invariant-loop-n
invariant-loop-n l = (l.n ≤ length l.bytes) × (l.n + prefix_len is_digit (drop l.n l.bytes) ≡ prefix_len is_digit l.bytes)

abbrev pub decreases-loop-n : goal.decreases-loop-n
decreases-loop-n l = length l.bytes - l.n
