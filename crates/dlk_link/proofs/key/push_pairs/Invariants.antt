use Rattle.std.proofs.Common.{◌≡◌, ◌++◌, ◌∷◌, take, length}
use Rattle.std.specs.Prelude.{flat_map}
use Rattle.dlk_link.specs.Keys.{pair_words}
use Rattle.dlk_link.proofs.key.push_pairs.Given as goal

abbrev pub invariant-loop-pair : goal.invariant-loop-pair
invariant-loop-pair l = l.words.items ≡ l.fn.words.items ++ (6 ∷ l.fact ∷ length l.pairs ∷ flat_map pair_words (take l.pair-index l.pairs))
