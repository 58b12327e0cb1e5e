use Rattle.std.proofs.Common.{◌≡◌, drop}
use Rattle.dlk_guard.specs.Instances.{first_constant}
use Rattle.dlk_guard.proofs.conditions.first_constant.Given as goal

-- none of the items so far is one
abbrev pub invariant-loop-item : goal.invariant-loop-item
invariant-loop-item l = first_constant l.items ≡ first_constant (drop l.item-index l.items)
