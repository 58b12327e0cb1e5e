-- A term file has more bytes than nodes.
use Rattle.std.proofs.Common.{◌≡◌, ℕ, ◌+◌, ◌≤◌, List, [], ◌∷◌, ◌++◌, length, codes, length-append, arith}
use Rattle.dlk_tree.specs.Trees.{Tree}
use Rattle.dlk_calculus.specs.Steps.{Step}
use Rattle.dlk_lines.specs.Spelled.{ByNodes}
use Rattle.dlk_lines.specs.Written.{trees_of, line_text}
use Rattle.dlk_nodes.specs.TermFiles.{nodes_after, all_nodes, node_lines, its_lines, step_lines, first_lines, ended, term_text}
use Rattle.dlk_nodes.specs.Terms.{new_in_each}

-- each line has a byte at least
ended_long : (lines : List (List ℕ)) → length lines ≤ length (ended lines)
ended_long [] = omega arith
ended_long (line ∷ lines) =
    let more = ended_long lines in
    let long = length-append line (10 ∷ ended lines) in
    omega (arith, more, long)

-- and each new node a line
as_many_lines : (nodes new : List Tree) → length (node_lines nodes new) ≡ length new
as_many_lines nodes [] = omega arith
as_many_lines nodes (t ∷ new) = let more = as_many_lines (nodes ++ t ∷ []) new in omega (arith, more)

nodes_in_lines : (nodes : List Tree) (number : ℕ) (steps : List Step) → length (all_nodes nodes steps) ≤ length nodes + length (step_lines nodes number steps)
nodes_in_lines nodes number [] = omega arith
nodes_in_lines nodes number (step ∷ steps) =
    let new = new_in_each nodes (trees_of step) in
    let after = nodes_after nodes step in
    let line = line_text (ByNodes after) number step in
    let more = nodes_in_lines after (number + 1) steps in
    let many = as_many_lines nodes new in
    let grown = length-append nodes new in
    let own = length-append (node_lines nodes new) (line ∷ []) in
    let all = length-append (its_lines nodes number step) (step_lines after (number + 1) steps) in
    omega (arith, more, many, grown, own, all)

pub few_nodes : (steps : List Step) → length (all_nodes [] steps) ≤ length (term_text steps)
few_nodes steps =
    let lines = first_lines steps in
    let inside = nodes_in_lines [] 1 steps in
    let ends = length-append lines (codes "done" ∷ []) in
    let long = ended_long (lines ++ codes "done" ∷ []) in
    omega (arith, inside, ends, long)
