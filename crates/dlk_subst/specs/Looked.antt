-- Nodes that were looked at once each.
use Rattle.std.specs.Prelude.{◌≡◌, ℕ, ◌+◌, ◌<◌, ◌≤◌, ◌==◌, Bool, false, List, length, map, slice_index_or, All, Contains}
use Rattle.dlk_tree.specs.Trees.{Tree, node}
use Rattle.dlk_store.specs.declared.Id.{Id}
use Rattle.dlk_store.specs.Stores.{IsId, tree, kid_trees}
use Rattle.dlk_subst.specs.declared.seen.Seen.{Seen}

abbrev pub same_id : Id → Id → Bool
same_id a b = a.0 == b.0

abbrev pub ids_of : List Seen → List Id
ids_of seen = map (λ (s : Seen). s.id) seen

-- the node is that of its id
pub record IsSeen (trees : List Tree) (s : Seen) : Type 0 where
  pub known : IsId trees s.id
  pub node_is : tree trees s.id ≡ node s.op.now (kid_trees trees s.kids.now)
  pub kids_known : All (IsId trees) s.kids.now

-- no id stands twice
pub record AreApart (ids : List Id) : Type 0 where
  pub apart : (i j : ℕ) (d : Id) → i < j → j < length ids → same_id (slice_index_or ids i d) (slice_index_or ids j d) ≡ false

-- nodes of some of these trees, each once
pub record AreSeen (trees : List Tree) (all : List Tree) (seen : List Seen) : Type 0 where
  pub each : All (IsSeen trees) seen
  pub once : AreApart (ids_of seen)
  pub among : (i : ℕ) (d : Id) → i < length (ids_of seen) → Contains all (tree trees (slice_index_or (ids_of seen) i d))

-- a tree of the list may have been looked at, and each look was at one that wasn't there
pub record SeesMore (trees : List Tree) (all : List Tree) (old new : List Seen) (before after : ℕ) : Type 0 where
  pub are : AreSeen trees all new
  pub cost : after + length old ≤ before + length new
