-- What rules look at, over ids.
use Rattle.std.specs.Prelude.{◌≡◌, ℕ, List, All, map}
use Rattle.dlk_tree.specs.declared.op.Op.{Op}
use Rattle.dlk_tree.specs.Trees.{Tree, node, sort}
use Rattle.dlk_tree.specs.declared.op.Sort.TheVariants.{Formula}
use Rattle.dlk_tree.specs.Table.{kid_sorts}
use Rattle.dlk_store.specs.declared.Id.{Id}
use Rattle.dlk_store.specs.Stores.{IsId, tree, StandsFor, kid_trees, sorts_at}
use Rattle.dlk_calculus.specs.Notation.{one, two}
use Rattle.dlk_calculus.specs.Places.{At, IsPlace}
use Rattle.dlk_rules.specs.declared.rule.RuleFault.{RuleFault}
use Rattle.dlk_rules.specs.declared.rule.RuleFault.TheVariants as fault

-- the id stands for the formula f at a place of a side
pub record IsAt (trees : List Tree) (side : List Tree) (place : ℕ) (id : Id) : Type 0 where
  pub place_is : IsPlace side place
  pub f : Tree
  pub at : At side place f
  pub stands : StandsFor trees id f

-- the formula there is this operator over these kids
pub record IsNodeAt (trees : List Tree) (side : List Tree) (place : ℕ) (op : Op) (kids : List Id) : Type 0 where
  pub place_is : IsPlace side place
  pub at : At side place (node op (kid_trees trees kids))
  pub known : All (IsId trees) kids
  pub sorts_are : sorts_at trees kids ≡ kid_sorts op

-- the formula there is this operator over f, and the id stands for f
pub record IsKidAt (trees : List Tree) (side : List Tree) (place : ℕ) (op : Op) (id : Id) : Type 0 where
  pub place_is : IsPlace side place
  pub f : Tree
  pub at : At side place (one op f)
  pub f_stands : StandsFor trees id f

-- the formula there is this operator over the formulas f and g, and the ids stand for them
pub record AreKidsAt (trees : List Tree) (side : List Tree) (place : ℕ) (op : Op) (id other : Id) : Type 0 where
  pub place_is : IsPlace side place
  pub f : Tree
  pub g : Tree
  pub at : At side place (two op f g)
  pub f_stands : StandsFor trees id f
  pub g_stands : StandsFor trees other g
  pub f_sort : sort (tree trees id) ≡ Formula
  pub g_sort : sort (tree trees other) ≡ Formula

-- the cause where no formula is at a place of a side of ids
abbrev pub IsPlaceFault : List Tree → List Id → ℕ → RuleFault → Type 0
IsPlaceFault trees ids place fault.NoPlace = ¬ IsPlace (map (tree trees) ids) place
IsPlaceFault trees ids place fault.WrongShape = ⊥
IsPlaceFault trees ids place fault.NotEqual = ⊥
IsPlaceFault trees ids place fault.NotFresh = ⊥
IsPlaceFault trees ids place fault.Memory = ⊥

-- the cause of the fault of a rule that asks for its places and for a form, which no parts have
abbrev pub IsShapeFault : (places Parts : Type 0) → (Parts → Type 0) → RuleFault → Type 0
IsShapeFault places Parts shape fault.NoPlace = ¬ places
IsShapeFault places Parts shape fault.WrongShape = places × ((p : Parts) → ¬ shape p)
IsShapeFault places Parts shape fault.NotEqual = ⊥
IsShapeFault places Parts shape fault.NotFresh = ⊥
IsShapeFault places Parts shape fault.Memory = Unit {0}

-- the cause where the formula at a place of a side of ids has no such form
abbrev pub IsFormFault : List Tree → List Id → ℕ → (Parts : Type 0) → (Parts → Tree) → RuleFault → Type 0
IsFormFault trees ids place Parts form why = IsShapeFault (IsPlace (map (tree trees) ids) place) Parts (λ p. At (map (tree trees) ids) place (form p)) why

-- the cause of the fault of a rule that asks for a fresh variable too
abbrev pub IsFreshFault : (places Parts : Type 0) → (shape fresh : Parts → Type 0) → RuleFault → Type 0
IsFreshFault places Parts shape fresh fault.NoPlace = ¬ places
IsFreshFault places Parts shape fresh fault.WrongShape = places × ((p : Parts) → ¬ shape p)
IsFreshFault places Parts shape fresh fault.NotEqual = ⊥
IsFreshFault places Parts shape fresh fault.NotFresh = places × ((p : Parts) × shape p × (¬ fresh p))
IsFreshFault places Parts shape fresh fault.Memory = Unit {0}
