use Rattle.std.proofs.Common.{◌≡◌, ◌+◌, length}
use Rattle.dlk_elab.specs.Forms.{applying, row_behind}
use Rattle.dlk_elab.proofs.spot.turns.Given as goal

abbrev pub invariant-loop-at : goal.invariant-loop-at
invariant-loop-at l =
    (l.steps.items ≡ applying l.fn.spot.fact l.rows l.yielded) ×
    (l.fact ≡ row_behind l.fn.spot.fact l.rows l.yielded) ×
    (l.last ≡ l.rows + length l.yielded)
