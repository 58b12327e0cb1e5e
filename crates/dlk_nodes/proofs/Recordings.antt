-- What first lines record: their state, and that each is a line of its own.
use Rattle.std.proofs.Common.{◌≡◌, ℕ, ◌+◌, List, [], ◌∷◌, ◌++◌, length, refl, sym, subst}
use Rattle.std.specs.Prelude.{All}
use Rattle.std.proofs.lemmas.List.{length_push}
use Rattle.std.proofs.lemmas.List.Elements.{All-nil, All-push}
use Rattle.dlk_tree.specs.Trees.{Tree}
use Rattle.dlk_calculus.specs.Steps.{Step}
use Rattle.dlk_lines.specs.Parts.{Lacks}
use Rattle.dlk_nodes.specs.Files.{head_line, Has}
use Rattle.dlk_nodes.specs.Files as has
use Rattle.dlk_nodes.specs.Lines.{OfNode, Numbered, IsLine, of_node, of_step}
use Rattle.dlk_nodes.specs.Recorded.{Records, head, one_node, one_step}
use Rattle.dlk_nodes.proofs.OneLine.{line_says}
use Rattle.dlk_nodes.proofs.FlatLines.{line_flat}

pub recorded_state : (lines : List (List ℕ)) (nodes : List Tree) (steps : List Step) → Records lines nodes steps → Has lines nodes (length steps)
recorded_state _ _ _ head = has.only_head
recorded_state _ _ _ (one_node {lines} {nodes} {steps} {line} {t} before is) =
    has.one_node (recorded_state lines nodes steps before) (line_says nodes line (OfNode (length nodes + 1) t) is)
recorded_state _ _ _ (one_step {lines} {nodes} {steps} {line} {step} before is) =
    subst (Has (lines ++ line ∷ []) nodes) (sym (length_push steps step))
    (has.one_step (recorded_state lines nodes steps before) (line_says nodes line (Numbered (length steps + 1) step) is))

-- and each state is recorded
pub state_recorded : (lines : List (List ℕ)) (nodes : List Tree) (n : ℕ) → Has lines nodes n →
    (steps : List Step) × (length steps ≡ n) × Records lines nodes steps
state_recorded _ _ _ has.only_head = ([], refl, head)
state_recorded _ _ _ (has.one_node {before} {nodes} {steps} {line} {t} first is) =
    let w = state_recorded before nodes steps first in
    (w.0, w.1, one_node w.2 (of_node is))
state_recorded _ _ _ (has.one_step {before} {nodes} {steps} {line} {s} first is) =
    let w = state_recorded before nodes steps first in
    let pushed : length (w.0 ++ s ∷ []) ≡ steps + 1 = subst (λ n. length (w.0 ++ s ∷ []) ≡ n + 1) w.1 (length_push w.0 s) in
    (w.0 ++ s ∷ [], pushed, one_step w.2 (subst (λ n. IsLine nodes line (Numbered (n + 1) s)) (sym w.1) (of_step is)))

abbrev pub IsOneLine : List ℕ → Type 0
IsOneLine line = Lacks line 10

pub recorded_flat : (lines : List (List ℕ)) (nodes : List Tree) (steps : List Step) → Records lines nodes steps → All IsOneLine lines
recorded_flat _ _ _ head = All-push IsOneLine [] head_line (All-nil IsOneLine) refl
recorded_flat _ _ _ (one_node {lines} {nodes} {steps} {line} {t} before is) =
    All-push IsOneLine lines line (recorded_flat lines nodes steps before) (line_flat nodes line (OfNode (length nodes + 1) t) is)
recorded_flat _ _ _ (one_step {lines} {nodes} {steps} {line} {step} before is) =
    All-push IsOneLine lines line (recorded_flat lines nodes steps before) (line_flat nodes line (Numbered (length steps + 1) step) is)
