-- Node lines: trees by the numbers of their nodes.
use Rattle.std.specs.Prelude.{◌≡◌, ℕ, List, ◌++◌, Bool, false, IsTrue, length, codes}
use Rattle.std.specs.List.{list_any}
use Rattle.dlk_tree.specs.declared.op.Op.{Op}
use Rattle.dlk_tree.specs.declared.op.Op.TheVariants as op
use Rattle.dlk_tree.specs.Table.{Fits, has_parts}
use Rattle.dlk_tree.specs.Trees.{Tree, node, forest, sorts}
use Rattle.dlk_tree.specs.TreeTests.{tree_eq}
use Rattle.dlk_calculus.specs.Limits.{IsSmall, IsShallow}
use Rattle.dlk_lines.specs.Numbers.{IsNumber}
use Rattle.dlk_lines.specs.Spelled.{NamesEach}
use Rattle.dlk_nodes.specs.Words.{op_text}

-- the tree has a node
abbrev pub has_node : List Tree → Tree → Bool
has_node nodes t = list_any (tree_eq t) nodes

-- an operator, and the numbers of its kids
pub data NamesNode {A : Type 0} (items : List A) : List ℕ → Op → List A → Type 0 where
  op_and_kids : {text : List ℕ} {kids : List A} (op : Op) → NamesEach items text kids → NamesNode items (op_text op ++ text) op kids

-- a node that may be written behind these: its operator fits its kids, its tree is within the limits, and has no node yet
pub record IsNew (nodes : List Tree) (op : Op) (kids : List Tree) : Type 0 where
  pub fits : Fits op (sorts (forest kids))
  pub small : IsSmall (node op (forest kids))
  pub shallow : IsShallow (node op (forest kids))
  pub new : has_node nodes (node op (forest kids)) ≡ false

-- the text of a new node
pub data IsNode (nodes : List Tree) : List ℕ → Tree → Type 0 where
  new_node : {text : List ℕ} {op : Op} {kids : List Tree} → NamesNode nodes text op kids → IsNew nodes op kids → IsNode nodes text (node op (forest kids))

-- IsNodeLine nodes text number t: a new node with its number
pub data IsNodeLine (nodes : List Tree) : List ℕ → ℕ → Tree → Type 0 where
  node_line : {n text : List ℕ} {number : ℕ} {t : Tree} → IsNumber n number → IsNode nodes text t →
      IsNodeLine nodes (codes "node " ++ n ++ codes " " ++ text) number t

-- What the text of a node says, as far as that is known without a look at its kids.

-- a call takes as many kids as its symbol has arguments
abbrev pub TakesKids : Op → ℕ → Type 0
TakesKids (op.Apply s) n = s.arity ≡ n
TakesKids (op.Holds s) n = s.arity ≡ n
TakesKids _ n = Unit {0}

pub record IsRead {A : Type 0} (items : List A) (text : List ℕ) (op : Op) (kids : List A) : Type 0 where
  pub names : NamesNode items text op kids
  pub parts : IsTrue (has_parts op)
  pub arity : TakesKids op (length kids)
