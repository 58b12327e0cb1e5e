use Rattle.std.proofs.Common.{◌≡◌, List, map, take}
use Rattle.std.specs.List.{All}
use Rattle.dlk_tree.specs.Trees.{Tree}
use Rattle.dlk_tacsyn.specs.Ties.{argument_at, ArgumentIsKnown}
use Rattle.dlk_strategy.specs.Runs.{put_place}
use Rattle.dlk_strategy.proofs.atoms.placed.Given as goal

abbrev pub invariant-loop-arg : goal.invariant-loop-arg
invariant-loop-arg l = record {
  made : (trees : List Tree) → map (argument_at trees) l.args ≡ map (put_place l.place) (map (argument_at trees) (take l.arg-index l.arg-items));
  known : (trees : List Tree) → All (ArgumentIsKnown trees) l.arg-items → All (ArgumentIsKnown trees) l.args;
}
