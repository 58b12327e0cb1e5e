-- What the first lines of a file of version 2 record.
use Rattle.std.specs.Prelude.{◌≡◌, ℕ, ◌+◌, List, [], ◌∷◌, ◌++◌, length}
use Rattle.dlk_tree.specs.Trees.{Tree}
use Rattle.dlk_calculus.specs.Steps.{Step}
use Rattle.dlk_nodes.specs.Files.{head_line}
use Rattle.dlk_nodes.specs.Lines.{OfNode, Numbered, IsLine}

-- Records lines nodes steps: behind the head, the lines say these nodes and these steps, each kind in turn and numbered from 1 on.
pub data Records : List (List ℕ) → List Tree → List Step → Type 0 where
  head : Records (head_line ∷ []) [] []
  one_node : {lines : List (List ℕ)} {nodes : List Tree} {steps : List Step} {line : List ℕ} {t : Tree} →
      Records lines nodes steps → IsLine nodes line (OfNode (length nodes + 1) t) → Records (lines ++ line ∷ []) (nodes ++ t ∷ []) steps
  one_step : {lines : List (List ℕ)} {nodes : List Tree} {steps : List Step} {line : List ℕ} {step : Step} →
      Records lines nodes steps → IsLine nodes line (Numbered (length steps + 1) step) → Records (lines ++ line ∷ []) nodes (steps ++ step ∷ [])

-- and the last of them is the line of the last step
pub record EndsInStep (lines : List (List ℕ)) (nodes : List Tree) (steps : List Step) : Type 0 where
  pub front : List (List ℕ)
  pub line : List ℕ
  pub before : List Step
  pub step : Step
  pub lines_are : lines ≡ front ++ line ∷ []
  pub steps_are : steps ≡ before ++ step ∷ []
  pub recorded : Records front nodes before
  pub is_last : IsLine nodes line (Numbered (length before + 1) step)
