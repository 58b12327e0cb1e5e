use Rattle.std.proofs.Common.{◌≡◌, ◌++◌, ◌∷◌, take, length}
use Rattle.dlk_link.proofs.key.push_bytes.Given as goal

abbrev pub invariant-loop-byte : goal.invariant-loop-byte
invariant-loop-byte l = l.words.items ≡ l.fn.words.items ++ (length l.bytes ∷ take l.byte-index l.bytes)
