use Rattle.std.proofs.Common.{◌≡◌, take}
use Rattle.dlk_match.specs.Found.{pairs_renamed}
use Rattle.dlk_match.proofs.found.renamed_pairs.Given as goal

-- the first pairs were renamed
abbrev pub invariant-loop-pair : goal.invariant-loop-pair
invariant-loop-pair l = l.new.items ≡ pairs_renamed l.renames (take l.pair-index l.pairs)
