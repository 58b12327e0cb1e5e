-- How many nodes are looked at for a plan, at most.
use Rattle.std.specs.Prelude.{ℕ, ◌+◌, ◌*◌, List, length, Option, Some, None, option_and_then}
use Rattle.dlk_tree.specs.Trees.{Tree, size}
use Rattle.dlk_calculus.specs.Paths.{subtree}

-- of the tree at the path, if there is one: three looks at each node
abbrev pub found_looks : Option Tree → ℕ
found_looks None = 0
found_looks (Some t) = 3 * size t

-- a look for each kid of the path, and those of the tree at the path
abbrev pub plan_looks : Option Tree → List ℕ → ℕ
plan_looks there path = length path + found_looks (option_and_then (λ e. subtree e path) there)
