-- What a line is, by how it begins.
use Rattle.std.proofs.Common.{◌≡◌, ◌≢◌, ℕ, List, ◌++◌, codes, sym, ◌∙◌}
use Rattle.dlk_tree.specs.Trees.{Tree}
use Rattle.dlk_calculus.specs.Steps.{Step}
use Rattle.dlk_lines.specs.Lines.{IsStepLine}
use Rattle.dlk_lines.specs.Spelled.{ByNodes}
use Rattle.dlk_nodes.specs.Lines.{Line, IsLine}
use Rattle.dlk_nodes.specs.Nodes.{IsNodeLine}
use Rattle.dlk_nodes.proofs.OneLine.{line_says, none_says}
use Rattle.dlk_nodes.proofs.OneNode.{line_parts}
use Rattle.dlk_nodes.proofs.OneState.{step_is_other}

module _ (nodes : List Tree) (text : List ℕ) where
  -- with the word of a node it is the line of one, or none
  pub only_a_node : (behind : List ℕ) → text ≡ codes "node " ++ behind → ((m : ℕ) (t : Tree) → ¬ IsNodeLine nodes text m t) → (l : Line) →
      ¬ IsLine nodes text l
  only_a_node behind e none l is =
      none_says nodes text none (step_is_other nodes text behind e) (λ d. let clash : codes "done" ≡ codes "node " ++ behind = sym d ∙ e in cc clash) l
      (line_says nodes text l is)

  -- without it, and other than `done`, it is that of a step, or none
  pub only_a_step : ((behind : List ℕ) → text ≢ codes "node " ++ behind) → text ≢ codes "done" →
      ((m : ℕ) (s : Step) → ¬ IsStepLine (ByNodes nodes) text m s) → (l : Line) → ¬ IsLine nodes text l
  only_a_step other unlike none l is =
      none_says nodes text (λ m t n. let p = line_parts nodes text m t n in other p.behind p.line_is) none unlike l (line_says nodes text l is)
