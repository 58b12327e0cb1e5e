use Rattle.std.proofs.Common.{◌≡◌, List, vec_len}
use Rattle.dlk_machine.specs.Machine.{Part, Piece, reduce}
use Rattle.dlk_reader.specs.Shows.{Stands}
use Rattle.dlk_reader.proofs.stack.Stack.reduce.Given as goal

-- what is left to close gives what all gives
abbrev pub invariant-loop-part : goal.invariant-loop-part
invariant-loop-part l =
    (S : List Part) (p : Piece) → Stands l.fn.self l.fn.last S p
    → (T : List Part) × (q : Piece) × Stands l.self l.last T q × (reduce l.level S p ≡ reduce l.level T q)

abbrev pub decreases-loop-part : goal.decreases-loop-part
decreases-loop-part l = vec_len l.self.parts
