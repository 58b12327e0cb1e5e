-- The written form of node lines.
use Rattle.std.specs.Prelude.{ℕ, ◌+◌, List, [], ◌++◌, length, codes}
use Rattle.std.specs.Fmt.{decimal}
use Rattle.dlk_tree.specs.Trees.{Tree, node, Forest, no_kids, kid}
use Rattle.dlk_lines.specs.Written.{number_text}
use Rattle.dlk_nodes.specs.Words.{op_text}

-- the numbers of kids, each behind a space
abbrev pub kids_text : List Tree → Forest → List ℕ
kids_text nodes no_kids = []
kids_text nodes (kid t rest) = codes " " ++ number_text nodes t ++ kids_text nodes rest

-- the line of a node with this number
abbrev pub numbered_text : ℕ → List Tree → Tree → List ℕ
numbered_text number nodes (node op kids) = codes "node " ++ decimal number ++ codes " " ++ (op_text op ++ kids_text nodes kids)

-- the line of the next node
abbrev pub node_text : List Tree → Tree → List ℕ
node_text nodes t = numbered_text (length nodes + 1) nodes t
