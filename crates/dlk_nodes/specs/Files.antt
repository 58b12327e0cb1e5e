-- What the first lines of a file of version 2 give: its nodes in order, and how many steps.
use Rattle.std.specs.Prelude.{ℕ, ◌+◌, List, [], ◌∷◌, ◌++◌, length, codes}
use Rattle.dlk_tree.specs.Trees.{Tree}
use Rattle.dlk_calculus.specs.Steps.{Step}
use Rattle.dlk_lines.specs.Spelled.{ByNodes}
use Rattle.dlk_lines.specs.Lines.{IsStepLine}
use Rattle.dlk_nodes.specs.Nodes.{IsNodeLine}

-- the first line of a file of version 2
abbrev pub head_line : List ℕ
head_line = codes "dlk 2"

-- Has before nodes steps: behind the head, lines of nodes and of steps in any order, each kind numbered from 1 on
pub data Has : List (List ℕ) → List Tree → ℕ → Type 0 where
  only_head : Has (head_line ∷ []) [] 0
  one_node : {before : List (List ℕ)} {nodes : List Tree} {steps : ℕ} {line : List ℕ} {t : Tree} →
      Has before nodes steps → IsNodeLine nodes line (length nodes + 1) t → Has (before ++ line ∷ []) (nodes ++ t ∷ []) steps
  one_step : {before : List (List ℕ)} {nodes : List Tree} {steps : ℕ} {line : List ℕ} {s : Step} →
      Has before nodes steps → IsStepLine (ByNodes nodes) line (steps + 1) s → Has (before ++ line ∷ []) nodes (steps + 1)
