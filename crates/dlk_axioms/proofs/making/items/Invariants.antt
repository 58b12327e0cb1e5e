use Rattle.std.proofs.Common.{◌≡◌, map, take}
use Rattle.dlk_axioms.specs.Shapes.{item_of}
use Rattle.dlk_axioms.proofs.making.items.Given as goal

abbrev pub invariant-loop-one : goal.invariant-loop-one
invariant-loop-one l = l.made.items ≡ map item_of (take l.one-index l.all)
