-- Tables of results by ids, and what they have while a tree is walked.
use Rattle.std.specs.Prelude.{◌≡◌, ℕ, ◌+◌, ◌*◌, ◌<◌, ◌≤◌, ◌⊎◌, Bool, cond, IsTrue, IsSome, List, length, Option, None, Some, Contains}
use Rattle.std.specs.List.{IsDistinct}
use Rattle.std.specs.Map.{lookup, keys_of}
use Rattle.dlk_tree.specs.Trees.{Tree, size}
use Rattle.dlk_store.specs.declared.Id.{Id}
use Rattle.dlk_store.specs.Stores.{IsId, tree}
use Rattle.dlk_subst.specs.Counts.{subtrees}
use Rattle.dlk_subst.specs.Looked.{same_id}

-- an id with its result, or with none as yet
abbrev pub Table : Type 0
Table = List (Id × Option Id)

-- what the table has for an id
abbrev pub found : Table → Id → Option (Option Id)
found table id = lookup (same_id id) table

-- no id stands twice
abbrev pub HasEachOnce : Table → Type 0
HasEachOnce table = IsDistinct same_id (keys_of table)

-- the two parts of a table: no id stands twice in a part, or in both
pub record AreParts (near far : Table) : Type 0 where
  pub near_once : HasEachOnce near
  pub far_once : HasEachOnce far
  pub apart : (k : Id) → IsSome (found near k) → found far k ≡ None

-- new is old, with this for the id
abbrev pub Puts : Table → Table → Id → Option Id → Type 0
Puts old new id r = (k : Id) → found new k ≡ cond (same_id id k) (Some r) (found old k)

-- the id was begun, and looked at in one step
pub record Opened (old new : Table) (id : Id) (before after : ℕ) : Type 0 where
  pub put : Puts old new id None
  pub long : length new ≡ length old + 1
  pub step : after ≡ before + 1

-- nothing happened
pub record Unopened (old new : Table) (before after : ℕ) : Type 0 where
  pub same : new ≡ old
  pub no_step : after ≡ before

-- each result is what is related to its tree
pub record IsRight (related : Tree → Tree → Type 0) (trees : List Tree) (table : Table) : Type 0 where
  pub known : (k : Id) (r : Option Id) → found table k ≡ Some r → IsId trees k
  pub result_known : (k r : Id) → found table k ≡ Some (Some r) → IsId trees r
  pub result_related : (k r : Id) → found table k ≡ Some (Some r) → related (tree trees k) (tree trees r)

-- a tree without a result is larger: it is still being made
pub record IsOpenAbove (trees : List Tree) (bound : ℕ) (table : Table) : Type 0 where
  pub larger : (k : Id) → found table k ≡ Some None → bound < size (tree trees k)

-- what has no result had none
pub record OpensNone (old new : Table) : Type 0 where
  pub was : (k : Id) → found new k ≡ Some None → found old k ≡ Some None

-- What walking the tree put into the table, and what it cost. Each new id is that of a subtree, and pays the price of its looks.
pub record Spends (unique : Bool) (price : ℕ) (root : Tree) (trees : List Tree) (old new : Table) (before after : ℕ) : Type 0 where
  pub entry : (k : Id) (r : Option Id) → found new k ≡ Some r → IsSome (found old k) ⊎ (IsId trees k × Contains (subtrees root) (tree trees k))
  pub once : HasEachOnce new
  pub cost : IsTrue unique → after + length old * price ≤ before + length new * price
