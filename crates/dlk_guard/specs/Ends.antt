-- The first and the last of some kids.
use Rattle.std.specs.Prelude.{◌≡◌, List}
use Rattle.dlk_tree.specs.Trees.{Tree, Forest}
use Rattle.dlk_store.specs.declared.Id.{Id}
use Rattle.dlk_store.specs.Stores.{tree}
use Rattle.dlk_calculus.specs.Kids.{first, last}

-- these ids stand for them
pub record AreEnds (trees : List Tree) (kids : Forest) (ends : Id × Id) : Type 0 where
  pub first_is : tree trees ends.0 ≡ first kids
  pub last_is : tree trees ends.1 ≡ last kids
