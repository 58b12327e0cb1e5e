-- What ids, atoms and faults of the code stand for.
use Rattle.std.specs.Prelude.{◌≡◌, ℕ, List, [], ◌∷◌, Some, codes}
use Rattle.dlk_tree.specs.Trees.{Tree}
use Rattle.dlk_store.specs.declared.Id.{Id}
use Rattle.dlk_store.specs.Stores.{IsId, tree}
use Rattle.dlk_sequent.specs.declared.sequent.Place.{Place}
use Rattle.dlk_sequent.specs.declared.sequent.Sequent.{Sequent}
use Rattle.dlk_sequent.specs.Sequents.{sequent_at}
use Rattle.dlk_calculus.specs.Paths.{subtree}
use Rattle.dlk_uses.specs.Uses.{formula_at}
use Rattle.dlk_tacsyn.specs.declared.tactic.Arg.TheVariants as arg
use Rattle.dlk_tacsyn.specs.declared.tactic.Atom.{Atom}
use Rattle.dlk_derive.specs.declared.fault.DeriveFault.{DeriveFault}
use Rattle.dlk_derive.specs.declared.fault.DeriveFault.TheVariants as fault
use Rattle.dlk_derive.specs.Plans.{Call}
use Rattle.dlk_derive.specs.Derives.{DeriveWhy, NoPlace, WrongShape, NoMatch, IsDifferential}

-- the fault says why; want of memory always may be
abbrev pub IsDeriveFaultOf : (DeriveWhy → Type 0) → DeriveFault → Type 0
IsDeriveFaultOf allowed fault.NoPlace = allowed NoPlace
IsDeriveFaultOf allowed fault.WrongShape = allowed WrongShape
IsDeriveFaultOf allowed fault.NoMatch = allowed NoMatch
IsDeriveFaultOf allowed fault.Memory = Unit {0}

-- the tree of an id stands at a path in the formula at a place
pub record IsTreeAt (trees : List Tree) (s : Sequent) (place : Place) (path : List ℕ) (found : Id) : Type 0 where
  pub formula : Tree
  pub known : IsId trees found
  pub stands : formula_at (sequent_at trees s) place ≡ Some formula
  pub leads : subtree formula path ≡ Some (tree trees found)

-- the tree of an id is the `( )'` of that of another one
pub record IsDifferentialOf (trees : List Tree) (id kid : Id) : Type 0 where
  pub known : IsId trees kid
  pub stands : IsDifferential (tree trees id) (tree trees kid)

-- the atom for a use at a place, as the code has it
abbrev pub atom_of : Place → Call → Atom
atom_of place call = record { name = codes "useAt"; args = arg.Word call.its_axiom ∷ arg.At place call.path ∷ []; at = 0 }
