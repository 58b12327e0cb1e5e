-- Nodes that are put behind others.
use Rattle.std.specs.Prelude.{◌≡◌, List, [], ◌∷◌, ◌++◌}
use Rattle.dlk_tree.specs.Trees.{Tree}
use Rattle.dlk_nodes.specs.Follow.{HasKidsThere}

-- some first ones of these were put behind the nodes, and nothing else
pub record AreBegun (old new more : List Tree) : Type 0 where
  pub there : List Tree
  pub left : List Tree
  pub put : new ≡ old ++ there
  pub whole : old ++ more ≡ new ++ left

-- the kids of each of these stand before it
abbrev pub KidsFollow : List Tree → List Tree → Type 0
KidsFollow nodes [] = Unit {0}
KidsFollow nodes (t ∷ new) = HasKidsThere nodes t × KidsFollow (nodes ++ t ∷ []) new
