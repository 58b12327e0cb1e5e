use Rattle.std.proofs.Common.{◌≡◌, take}
use Rattle.dlk_sequent.proofs.extra.copy_pairs.Given as goal

-- the first pairs were copied
abbrev pub invariant-loop-pair : goal.invariant-loop-pair
invariant-loop-pair l = l.pairs.items ≡ take l.pair-index l.from
