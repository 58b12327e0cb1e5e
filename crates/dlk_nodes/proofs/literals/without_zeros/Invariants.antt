use Rattle.std.proofs.Common.{◌≡◌, ◌≤◌, length, take}
use Rattle.dlk_grammar.specs.Tokens.{trimmed}
use Rattle.dlk_nodes.proofs.literals.without_zeros.Given as goal

-- the digits that are left say the same
abbrev pub invariant-loop-n : goal.invariant-loop-n
invariant-loop-n l = (l.n ≤ length l.digits) × (trimmed (take l.n l.digits) ≡ trimmed l.digits)

abbrev pub decreases-loop-n : goal.decreases-loop-n
decreases-loop-n l = l.n
