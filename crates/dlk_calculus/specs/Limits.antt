-- The limits of what is read, and of what a proof may hold, as numbers.
use Rattle.std.specs.Prelude.{ℕ, ◌≤◌}
use Rattle.dlk_tree.specs.Trees.{Tree, size, depth}

-- The nodes and the depth of a tree, whether it is read or made.

abbrev pub most_nodes : ℕ
most_nodes = 65536

abbrev pub greatest_depth : ℕ
greatest_depth = 1000

-- The formulas on a side of a sequent; the goals and the leaves of a provable; the rows of a proof.

abbrev pub most_formulas : ℕ
most_formulas = 256

abbrev pub most_goals : ℕ
most_goals = 256

abbrev pub most_leaves : ℕ
most_leaves = 1024

abbrev pub most_rows : ℕ
most_rows = 400000

abbrev pub IsSmall : Tree → Type 0
IsSmall t = size t ≤ most_nodes

abbrev pub IsShallow : Tree → Type 0
IsShallow t = depth t ≤ greatest_depth
