use Rattle.std.proofs.Common.{◌≡◌, take}
use Rattle.dlk_shared.specs.Mixed.{mixed}
use Rattle.dlk_shared.proofs.node.mixed.Given as goal

abbrev pub invariant-loop-id : goal.invariant-loop-id
invariant-loop-id l = l.all ≡ mixed l.op (take l.id-index l.kids)
