-- The lines of the term file of steps record these steps.
use Rattle.std.proofs.Common.{◌≡◌, ℕ, ◌+◌, ◌≤◌, List, [], ◌∷◌, ◌++◌, length, refl, sym, subst, append_assoc, append-nil, length-append, arith}
use Rattle.std.proofs.lemmas.List.{length_push}
use Rattle.dlk_tree.specs.Trees.{Tree}
use Rattle.dlk_calculus.specs.Steps.{Step}
use Rattle.dlk_lines.specs.Spelled.{ByNodes}
use Rattle.dlk_lines.specs.Written.{trees_of, line_text}
use Rattle.dlk_lines.proofs.Readback.{line_read}
use Rattle.dlk_nodes.specs.Files.{head_line}
use Rattle.dlk_nodes.specs.Follow.{Follow}
use Rattle.dlk_nodes.specs.Lines.{of_node, of_step}
use Rattle.dlk_nodes.specs.Recorded.{Records, head, one_node, one_step, EndsInStep}
use Rattle.dlk_nodes.specs.TermFiles.{nodes_after, all_nodes, node_lines, its_lines, step_lines, first_lines, IsWritable, AreWritable}
use Rattle.dlk_nodes.specs.Terms.{new_in_each}
use Rattle.dlk_nodes.specs.Written.{node_text}
use Rattle.dlk_nodes.proofs.NewNodes.{each_follow}
use Rattle.dlk_nodes.proofs.NodeRead.{node_read}

-- the lines of new nodes
nodes_recorded : (lines : List (List ℕ)) (nodes new : List Tree) (steps : List Step) → length nodes + length new ≤ 999999999 → Follow nodes new →
    Records lines nodes steps → Records (lines ++ node_lines nodes new) (nodes ++ new) steps
nodes_recorded lines nodes [] steps few follow w =
    subst (λ l. Records l (nodes ++ []) steps) (sym (append-nil lines)) (subst (λ n. Records lines n steps) (sym (append-nil nodes)) w)
nodes_recorded lines nodes (t ∷ new) steps few follow w =
    let line = node_text nodes t in
    let more = nodes ++ t ∷ [] in
    let long = length_push nodes t in
    let one : Records (lines ++ line ∷ []) more steps = one_node w (of_node (node_read nodes t (omega (arith, few)) follow.0)) in
    let rest = nodes_recorded (lines ++ line ∷ []) more new steps (omega (arith, few, long)) follow.1 one in
    subst (λ l. Records l (nodes ++ t ∷ new) steps) (append_assoc lines (line ∷ []) (node_lines more new))
    (subst (λ n. Records ((lines ++ line ∷ []) ++ node_lines more new) n steps) (append_assoc nodes (t ∷ []) new) rest)

-- and then the line of the step
step_recorded : (lines : List (List ℕ)) (nodes : List Tree) (steps : List Step) (step : Step) → length (nodes_after nodes step) ≤ 999999999 →
    length steps + 1 ≤ 999999999 → IsWritable step → Records lines nodes steps →
    EndsInStep (lines ++ its_lines nodes (length steps + 1) step) (nodes_after nodes step) (steps ++ step ∷ [])
step_recorded lines nodes steps step few short writable w =
    let new = new_in_each nodes (trees_of step) in
    let after = nodes_after nodes step in
    let each = each_follow nodes (trees_of step) writable.trees in
    let line = line_text (ByNodes after) (length steps + 1) step in
    let long = length-append nodes new in
    let read = line_read (ByNodes after) (length steps + 1) step (record { some = omega arith; few = short }) (writable.line after few each.1) in
    record {
      front = lines ++ node_lines nodes new;
      line = line;
      before = steps;
      step = step;
      lines_are = sym (append_assoc lines (node_lines nodes new) (line ∷ []));
      steps_are = refl;
      recorded = nodes_recorded lines nodes new steps (omega (arith, few, long)) each.0 w;
      is_last = of_step read;
    }

-- what ends in a step is recorded
ends_recorded : (lines : List (List ℕ)) (nodes : List Tree) (steps : List Step) → EndsInStep lines nodes steps → Records lines nodes steps
ends_recorded lines nodes steps e =
    subst (λ l. Records l nodes steps) (sym e.lines_are)
    (subst (Records (e.front ++ e.line ∷ []) nodes) (sym e.steps_are) (one_step e.recorded e.is_last))

-- the nodes only grow
grown : (nodes : List Tree) (steps : List Step) → length nodes ≤ length (all_nodes nodes steps)
grown nodes [] = omega arith
grown nodes (step ∷ steps) =
    let more = grown (nodes_after nodes step) steps in
    let long = length-append nodes (new_in_each nodes (trees_of step)) in
    omega (arith, more, long)

-- the first of several steps
first_recorded : (lines : List (List ℕ)) (nodes : List Tree) (before : List Step) (step : Step) (number : ℕ) → number ≡ length before + 1 →
    length (nodes_after nodes step) ≤ 999999999 → length before + 1 ≤ 999999999 → IsWritable step → Records lines nodes before →
    EndsInStep (lines ++ its_lines nodes number step) (nodes_after nodes step) (before ++ step ∷ [])
first_recorded lines nodes before step number own few short writable w =
    subst (λ n. EndsInStep (lines ++ its_lines nodes n step) (nodes_after nodes step) (before ++ step ∷ [])) (sym own)
    (step_recorded lines nodes before step few short writable w)

steps_recorded : (lines : List (List ℕ)) (nodes : List Tree) (before : List Step) (step : Step) (steps : List Step) (number : ℕ) →
    number ≡ length before + 1 → length (all_nodes nodes (step ∷ steps)) ≤ 999999999 → length before + length (step ∷ steps) ≤ 999999999 →
    AreWritable (step ∷ steps) → Records lines nodes before →
    EndsInStep (lines ++ step_lines nodes number (step ∷ steps)) (all_nodes nodes (step ∷ steps)) (before ++ step ∷ steps)
steps_recorded lines nodes before step [] number own few short writable w =
    subst (λ l. EndsInStep (lines ++ l) (nodes_after nodes step) (before ++ step ∷ [])) (sym (append-nil (its_lines nodes number step)))
    (first_recorded lines nodes before step number own few (omega (arith, short)) writable.0 w)
steps_recorded lines nodes before step (next ∷ rest) number own few short writable w =
    let after = nodes_after nodes step in
    let its = its_lines nodes number step in
    let enough = grown after (next ∷ rest) in
    let pushed = length_push before step in
    let first = first_recorded lines nodes before step number own (omega (arith, few, enough)) (omega (arith, short)) writable.0 w in
    let recorded = ends_recorded (lines ++ its) after (before ++ step ∷ []) first in
    let more = steps_recorded (lines ++ its) after (before ++ step ∷ []) next rest (number + 1) (omega (arith, own, pushed)) few
    (omega (arith, short, pushed)) writable.1 recorded in
    subst (λ l. EndsInStep l (all_nodes after (next ∷ rest)) (before ++ step ∷ next ∷ rest))
    (append_assoc lines its (step_lines after (number + 1) (next ∷ rest)))
    (subst (EndsInStep ((lines ++ its) ++ step_lines after (number + 1) (next ∷ rest)) (all_nodes after (next ∷ rest)))
    (append_assoc before (step ∷ []) (next ∷ rest)) more)

-- the laws
pub term_ends : (steps : List Step) → AreWritable steps → 1 ≤ length steps → length (all_nodes [] steps) ≤ 999999999 → length steps ≤ 999999999 →
    EndsInStep (first_lines steps) (all_nodes [] steps) steps
term_ends [] writable some few short = absurd (omega (arith, some))
term_ends (step ∷ steps) writable some few short =
    steps_recorded (head_line ∷ []) [] [] step steps 1 refl few (omega (arith, short)) writable head

pub term_recorded : (steps : List Step) → AreWritable steps → length (all_nodes [] steps) ≤ 999999999 → length steps ≤ 999999999 →
    Records (first_lines steps) (all_nodes [] steps) steps
term_recorded [] writable few short = head
term_recorded (step ∷ steps) writable few short =
    ends_recorded (first_lines (step ∷ steps)) (all_nodes [] (step ∷ steps)) (step ∷ steps)
    (term_ends (step ∷ steps) writable (omega arith) few short)
