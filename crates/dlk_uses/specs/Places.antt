-- The formula at a place, by its id.
use Rattle.std.specs.Prelude.{◌≡◌, List, Some}
use Rattle.dlk_tree.specs.Trees.{Tree}
use Rattle.dlk_store.specs.declared.Id.{Id}
use Rattle.dlk_store.specs.Stores.{IsId, tree}
use Rattle.dlk_sequent.specs.declared.sequent.Place.{Place}
use Rattle.dlk_sequent.specs.declared.sequent.Sequent.{Sequent}
use Rattle.dlk_sequent.specs.Sequents.{sequent_at, IsKnown}
use Rattle.dlk_uses.specs.Uses.{formula_at}

-- the formula of this id stands at the place, whatever the ids stand for
pub record IsFormulaAt (s : Sequent) (place : Place) (f : Id) : Type 0 where
  pub stands : (trees : List Tree) → formula_at (sequent_at trees s) place ≡ Some (tree trees f)
  pub known : (trees : List Tree) → IsKnown trees s → IsId trees f
