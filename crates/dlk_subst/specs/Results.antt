-- Results of a relation in a store, and trees of arguments.
use Rattle.std.specs.Prelude.{List}
use Rattle.dlk_tree.specs.Trees.{Tree, trees_in}
use Rattle.dlk_store.specs.Stores.{StandsFor, kid_trees}
use Rattle.dlk_store.specs.declared.Id.{Id}

-- the id stands for a related tree
pub record IsResult (related : Tree → Type 0) (trees : List Tree) (id : Id) : Type 0 where
  pub result : Tree
  pub is_related : related result
  pub stands : StandsFor trees id result

-- no tree is related
abbrev pub HasNone : (Tree → Type 0) → Type 0
HasNone related = (t : Tree) → related t → ⊥

-- the trees of these ids, as arguments
abbrev pub args_at : List Tree → List Id → List Tree
args_at trees ids = trees_in (kid_trees trees ids)
