use Rattle.std.proofs.Common.{◌≡◌, drop}
use Rattle.dlk_match.specs.Tried.{id_for}
use Rattle.dlk_match.proofs.taking.find.Given as goal

-- the symbol is looked for in the pairs that are left
abbrev pub invariant-loop-pair : goal.invariant-loop-pair
invariant-loop-pair l = id_for l.pairs l.s ≡ id_for (drop l.pair-index l.pairs) l.s
