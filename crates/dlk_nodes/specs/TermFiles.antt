-- The term file of steps, in version 2.
use Rattle.std.specs.Prelude.{ℕ, ◌+◌, ◌≤◌, List, [], ◌∷◌, ◌++◌, length, codes}
use Rattle.dlk_tree.specs.Trees.{Tree}
use Rattle.dlk_calculus.specs.Steps.{Step}
use Rattle.dlk_lines.specs.Laws.{IsRead}
use Rattle.dlk_lines.specs.Spelled.{ByNodes}
use Rattle.dlk_lines.specs.Written.{trees_of, line_text}
use Rattle.dlk_nodes.specs.Files.{head_line}
use Rattle.dlk_nodes.specs.Follow.{AreThere, EachGood}
use Rattle.dlk_nodes.specs.Terms.{new_in_each}
use Rattle.dlk_nodes.specs.Written.{node_text}

-- the nodes behind those of a step
abbrev pub nodes_after : List Tree → Step → List Tree
nodes_after nodes step = nodes ++ new_in_each nodes (trees_of step)

-- and behind those of several steps
abbrev pub all_nodes : List Tree → List Step → List Tree
all_nodes nodes [] = nodes
all_nodes nodes (step ∷ steps) = all_nodes (nodes_after nodes step) steps

-- the lines of new nodes
abbrev pub node_lines : List Tree → List Tree → List (List ℕ)
node_lines nodes [] = []
node_lines nodes (t ∷ new) = node_text nodes t ∷ node_lines (nodes ++ t ∷ []) new

-- the line of a step, and before it those of its new nodes
abbrev pub its_lines : List Tree → ℕ → Step → List (List ℕ)
its_lines nodes number step =
    node_lines nodes (new_in_each nodes (trees_of step)) ++ line_text (ByNodes (nodes_after nodes step)) number step ∷ []

-- those of steps in turn, numbered from this number on
abbrev pub step_lines : List Tree → ℕ → List Step → List (List ℕ)
step_lines nodes number [] = []
step_lines nodes number (step ∷ steps) = its_lines nodes number step ++ step_lines (nodes_after nodes step) (number + 1) steps

-- the lines before `done`
abbrev pub first_lines : List Step → List (List ℕ)
first_lines steps = head_line ∷ step_lines [] 1 steps

-- lines, each with a line feed behind it
abbrev pub ended : List (List ℕ) → List ℕ
ended [] = []
ended (line ∷ lines) = line ++ 10 ∷ ended lines

-- the canonical term file of steps
abbrev pub term_text : List Step → List ℕ
term_text steps = ended (first_lines steps ++ codes "done" ∷ [])

-- A step whose line may be written: its trees are well made and within the limits, and its line is read behind any nodes among which they are.
pub record IsWritable (step : Step) : Type 0 where
  pub trees : EachGood (trees_of step)
  pub line : (nodes : List Tree) → length nodes ≤ 999999999 → AreThere nodes (trees_of step) → IsRead (ByNodes nodes) step

abbrev pub AreWritable : List Step → Type 0
AreWritable [] = Unit {0}
AreWritable (step ∷ steps) = IsWritable step × AreWritable steps
