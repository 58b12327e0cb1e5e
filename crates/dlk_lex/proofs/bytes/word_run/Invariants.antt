use Rattle.std.proofs.Common.{length, ◌-◌, ◌≡◌, ◌+◌, ◌≤◌, drop}
use Rattle.std.specs.List.{prefix_len}
use Rattle.dlk_tree.specs.Names.{is_name_byte}
use Rattle.dlk_lex.proofs.bytes.word_run.Given as goal

-- the run so far and the rest of it are the whole
abbrev pub invariant-loop-n : goal.invariant-loop-n
invariant-loop-n l = (l.n ≤ length l.bytes) × (l.n + prefix_len is_name_byte (drop l.n l.bytes) ≡ prefix_len is_name_byte l.bytes)

abbrev pub decreases-loop-n : goal.decreases-loop-n
decreases-loop-n l = length l.bytes - l.n
