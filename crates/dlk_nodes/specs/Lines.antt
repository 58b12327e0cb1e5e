-- The lines of a file of version 2, behind its first.
use Rattle.std.specs.Prelude.{ℕ, List, codes}
use Rattle.dlk_tree.specs.Trees.{Tree}
use Rattle.dlk_calculus.specs.Steps.{Step}
use Rattle.dlk_lines.specs.Lines.{IsStepLine}
use Rattle.dlk_lines.specs.Spelled.{ByNodes}
use Rattle.dlk_nodes.specs.Nodes.{IsNodeLine}

-- what a line says
pub data Line : Type 0 where
  -- a new node with its number
  OfNode : ℕ → Tree → Line
  -- a step with its number
  Numbered : ℕ → Step → Line
  -- no line comes after it
  Done : Line

-- IsLine nodes text line: behind these nodes the text, without a line feed behind it, is this line.
pub data IsLine (nodes : List Tree) : List ℕ → Line → Type 0 where
  of_node : {text : List ℕ} {number : ℕ} {t : Tree} → IsNodeLine nodes text number t → IsLine nodes text (OfNode number t)
  of_step : {text : List ℕ} {number : ℕ} {step : Step} → IsStepLine (ByNodes nodes) text number step → IsLine nodes text (Numbered number step)
  done : IsLine nodes (codes "done") Done
