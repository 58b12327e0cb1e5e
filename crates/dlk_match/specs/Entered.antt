-- How many kids of a node are outside the scope of a binder, from the first on.
use Rattle.std.specs.Prelude.{ℕ, ◌+◌, ◌-◌, if◌then◌else◌}
use Rattle.dlk_tree.specs.declared.op.Var.{Var}
use Rattle.dlk_tree.specs.declared.op.Op.{Op}
use Rattle.dlk_tree.specs.Trees.{Forest, no_kids, kid}
use Rattle.dlk_calculus.specs.Captures.{captures}

abbrev pub count : Forest → ℕ
count no_kids = 0
count (kid t rest) = count rest + 1

abbrev pub entered : Var → Op → Forest → ℕ
entered v op kids = if (captures op).set kids v then count kids - count ((captures op).reach kids) else count kids
