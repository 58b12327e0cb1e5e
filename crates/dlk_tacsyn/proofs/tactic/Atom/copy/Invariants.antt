use Rattle.std.proofs.Common.{◌≡◌, take}
use Rattle.dlk_tacsyn.proofs.tactic.Atom.copy.Given as goal

-- the first arguments were copied
abbrev pub invariant-loop-arg : goal.invariant-loop-arg
invariant-loop-arg l = l.args ≡ take l.arg-index l.self.args
