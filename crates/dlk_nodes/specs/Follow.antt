-- Nodes that may be written one after another.
use Rattle.std.specs.Prelude.{◌≡◌, true, false, List, [], ◌∷◌, ◌++◌}
use Rattle.dlk_tree.specs.Trees.{Tree, node, Forest, no_kids, kid, WellMade}
use Rattle.dlk_calculus.specs.Limits.{IsSmall, IsShallow}
use Rattle.dlk_nodes.specs.Nodes.{has_node}

-- each of these trees has a node
abbrev pub AreThere : List Tree → List Tree → Type 0
AreThere nodes [] = Unit {0}
AreThere nodes (t ∷ ts) = (has_node nodes t ≡ true) × AreThere nodes ts

-- and each of these kids
abbrev pub KidsThere : List Tree → Forest → Type 0
KidsThere nodes no_kids = Unit {0}
KidsThere nodes (kid t rest) = (has_node nodes t ≡ true) × KidsThere nodes rest

abbrev pub HasKidsThere : List Tree → Tree → Type 0
HasKidsThere nodes (node op kids) = KidsThere nodes kids

-- a tree whose nodes may be written
pub record IsGood (t : Tree) : Type 0 where
  pub well_made : WellMade t
  pub small : IsSmall t
  pub shallow : IsShallow t

abbrev pub EachGood : List Tree → Type 0
EachGood [] = Unit {0}
EachGood (t ∷ ts) = IsGood t × EachGood ts

-- a node whose kids stand before it, and that is new
abbrev pub IsNext : List Tree → Tree → Type 0
IsNext nodes (node op kids) = KidsThere nodes kids × (has_node nodes (node op kids) ≡ false) × IsGood (node op kids)

-- each of these may be written behind the ones before it
abbrev pub Follow : List Tree → List Tree → Type 0
Follow nodes [] = Unit {0}
Follow nodes (t ∷ new) = IsNext nodes t × Follow (nodes ++ t ∷ []) new
