use Rattle.std.proofs.Common.{◌≡◌, ◌++◌, ◌∷◌, take, length, map}
use Rattle.dlk_link.specs.Keys.{index}
use Rattle.dlk_link.proofs.key.push_ids.Given as goal

abbrev pub invariant-loop-id : goal.invariant-loop-id
invariant-loop-id l = l.words.items ≡ l.fn.words.items ++ (length (map index l.ids) ∷ map index (take l.id-index l.ids))
