-- A way through the nodes of a store, and what is put at its end.
use Rattle.std.specs.Prelude.{◌≡◌, ◌≢◌, ◌≤◌, ℕ, List, [], ◌∷◌, length, map, take, drop, Option, None, Some}
use Rattle.dlk_tree.specs.declared.op.Sort.{Sort}
use Rattle.dlk_tree.specs.Trees.{Tree, sort}
use Rattle.dlk_store.specs.declared.Id.{Id}
use Rattle.dlk_store.specs.Stores.{IsId, tree, StandsFor}
use Rattle.dlk_calculus.specs.Paths.{subtree, put_at, IsInnermost}
use Rattle.dlk_sequent.specs.declared.spine.Turn.{Turn}
use Rattle.dlk_sequent.specs.declared.spine.Innermost.{Innermost}
use Rattle.dlk_sequent.specs.declared.fault.PutFault.{PutFault}
use Rattle.dlk_sequent.specs.declared.fault.PutFault.TheVariants.{NoPlace, WrongSort, Memory}

-- the path leads from the tree of an id to that of another one
pub record LeadsTo (trees : List Tree) (id : Id) (path : List ℕ) (found : Id) : Type 0 where
  pub known : IsId trees found
  pub stands : subtree (tree trees id) path ≡ Some (tree trees found)

-- there is a tree, of this sort
abbrev pub HasSort : Sort → Option Tree → Type 0
HasSort s None = ⊥
HasSort s (Some t) = sort t ≡ s

-- there is a tree, of another sort
abbrev pub HasOtherSort : Sort → Option Tree → Type 0
HasOtherSort s None = ⊥
HasOtherSort s (Some t) = sort t ≢ s

-- the tree of an id with that of a new one at the path, where one of the same sort stands
pub record IsPut (before after : List Tree) (id : Id) (path : List ℕ) (new made : Id) : Type 0 where
  pub same_sort : HasSort (sort (tree before new)) (subtree (tree before id) path)
  pub stands : StandsFor after made (put_at (tree before id) path (tree before new))

-- why there is none: want of memory always may be
abbrev pub IsPutFault : List Tree → Id → List ℕ → Id → PutFault → Type 0
IsPutFault trees id path new NoPlace = subtree (tree trees id) path ≡ None
IsPutFault trees id path new WrongSort = HasOtherSort (sort (tree trees new)) (subtree (tree trees id) path)
IsPutFault trees id path new Memory = Unit {0}

-- what contracts see of a spine: the nodes on the way, each with the kid that is taken there, and what is found at its end
pub record Way : Type 0 where
  pub turns : List Turn
  pub found : Id

-- where the way begins
abbrev pub start : List Turn → Id → Id
start [] found = found
start (turn ∷ turns) found = turn.node

abbrev pub top : Way → Id
top way = start way.turns way.found

-- the kids that it takes
abbrev pub path_of : Way → List ℕ
path_of way = map (λ (turn : Turn). turn.kid) way.turns

-- each node is one of the store, and the kid that is taken there is the next one
abbrev pub AreTurns : List Tree → List Turn → Id → Type 0
AreTurns trees [] found = IsId trees found
AreTurns trees (turn ∷ turns) found =
    IsId trees turn.node × (subtree (tree trees turn.node) (turn.kid ∷ []) ≡ Some (tree trees (start turns found))) × AreTurns trees turns found

-- a spine over a store with these trees
abbrev pub IsSpine : List Tree → Way → Type 0
IsSpine trees way = AreTurns trees way.turns way.found

-- the spine from this tree along this path
pub record IsSpineOf (trees : List Tree) (id : Id) (path : List ℕ) (way : Way) : Type 0 where
  pub starts : top way ≡ id
  pub goes : path_of way ≡ path
  pub spine : IsSpine trees way

-- the way along the first kids, and the way on from its end
abbrev pub outer_part : Way → ℕ → Way
outer_part way n = record { turns = take n way.turns; found = start (drop n way.turns) way.found }

abbrev pub inner_part : Way → ℕ → Way
inner_part way n = record { turns = drop n way.turns; found = way.found }

-- the smallest formula round what is found
pub record IsInnermostOf (trees : List Tree) (way : Way) (i : Innermost) : Type 0 where
  pub known : IsId trees i.formula
  pub within : i.outer ≤ length way.turns
  pub innermost : IsInnermost (tree trees (top way)) (path_of way) (take i.outer (path_of way)) (drop i.outer (path_of way)) (tree trees i.formula)

-- there is none
abbrev pub HasNoInnermost : List Tree → Way → Type 0
HasNoInnermost trees way = (outer inner : List ℕ) (formula : Tree) → ¬ IsInnermost (tree trees (top way)) (path_of way) outer inner formula
