-- The written line of a node is read as that node.
use Rattle.std.proofs.Common.{◌≡◌, ◌+◌, ◌≤◌, false, List, ◌++◌, length, sym, subst, arith}
use Rattle.dlk_tree.specs.Table.{Fits}
use Rattle.dlk_tree.specs.Trees.{Tree, node, Forest, no_kids, kid, forest, trees_in, sorts}
use Rattle.dlk_calculus.specs.Limits.{IsSmall, IsShallow}
use Rattle.dlk_readback.proofs.Kids.{forest-trees}
use Rattle.dlk_lines.specs.Spelled.{NamesEach, none_behind, one_behind}
use Rattle.dlk_nodes.specs.Nodes.{has_node, op_and_kids, IsNode, new_node, IsNodeLine, node_line}
use Rattle.dlk_nodes.specs.Words.{op_text}
use Rattle.dlk_nodes.specs.Written.{kids_text, node_text}
use Rattle.dlk_nodes.specs.Follow.{KidsThere, IsNext}
use Rattle.dlk_lines.proofs.NumberText.{number_read}
use Rattle.dlk_nodes.proofs.Places.{named}

named_kids : (nodes : List Tree) → length nodes ≤ 999999999 → (kids : Forest) → KidsThere nodes kids → NamesEach nodes (kids_text nodes kids) (trees_in kids)
named_kids nodes few no_kids h = none_behind
named_kids nodes few (kid t rest) h = one_behind (named nodes few t h.0) (named_kids nodes few rest h.1)

-- a node is read from its line
pub node_read : (nodes : List Tree) (t : Tree) → length nodes + 1 ≤ 999999999 → IsNext nodes t → IsNodeLine nodes (node_text nodes t) (length nodes + 1) t
node_read nodes (node op kids) few next =
    let same = forest-trees kids in
    let text = op_text op ++ kids_text nodes kids in
    let good = next.2 in
    let read : IsNode nodes text (node op (forest (trees_in kids))) =
    new_node (op_and_kids op (named_kids nodes (omega (arith, few)) kids next.0))
    (record {
      fits = subst (λ ks. Fits op (sorts ks)) (sym same) good.well_made.0;
      small = subst (λ ks. IsSmall (node op ks)) (sym same) good.small;
      shallow = subst (λ ks. IsShallow (node op ks)) (sym same) good.shallow;
      new = subst (λ ks. has_node nodes (node op ks) ≡ false) (sym same) next.1;
    }) in
    node_line (number_read (length nodes + 1) (record { some = omega arith; few = few })) (subst (λ ks. IsNode nodes text (node op ks)) same read)
