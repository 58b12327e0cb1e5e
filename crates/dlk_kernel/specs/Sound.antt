-- What the type of kernels keeps.
use Rattle.std.specs.Prelude.{Bool, IsTrue, List}
use Rattle.dlk_tree.specs.Trees.{Tree}
use Rattle.dlk_kernel.specs.declared.named.Named.{Named}
use Rattle.dlk_kernel.specs.declared.row.Row.{Row}
use Rattle.dlk_kernel.specs.Kernel.{AreSoundRows}
use Rattle.dlk_kernel.specs.Named.{AreNamed}

-- a tree has at most one id in the store, the rows are sound, and the axioms and axiomatic rules that were named have what was made of them
pub record IsSound (unique : Bool) (trees : List Tree) (rows : List Row) (named : Named) : Type 0 where
  pub is_unique : IsTrue unique
  pub are_sound : AreSoundRows trees rows
  pub are_named : AreNamed trees named
