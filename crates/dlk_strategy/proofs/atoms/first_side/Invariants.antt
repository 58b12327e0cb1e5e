use Rattle.std.proofs.Common.{◌≡◌, List, map, drop}
use Rattle.dlk_tree.specs.Trees.{Tree}
use Rattle.dlk_tacsyn.specs.Ties.{argument_at}
use Rattle.dlk_strategy.specs.Runs.{side}
use Rattle.dlk_strategy.proofs.atoms.first_side.Given as goal

abbrev pub invariant-loop-arg : goal.invariant-loop-arg
invariant-loop-arg l = (trees : List Tree) → side (map (argument_at trees) l.args) ≡ side (map (argument_at trees) (drop l.arg-index l.args))
