-- What a sequent of ids stands for.
use Rattle.std.specs.Prelude.{List, map, All}
use Rattle.dlk_tree.specs.Trees.{Tree}
use Rattle.dlk_store.specs.Stores.{IsId, tree}
use Rattle.dlk_calculus.specs.Sequents.{Sequent as TreeSequent}
use Rattle.dlk_sequent.specs.declared.sequent.Sequent.{Sequent}

-- the sequent of the trees of the ids
abbrev pub sequent_at : List Tree → Sequent → TreeSequent
sequent_at trees s = record { ante = map (tree trees) s.ante; succ = map (tree trees) s.succ }

-- its ids are those of the store
pub record IsKnown (trees : List Tree) (s : Sequent) : Type 0 where
  pub ante : All (IsId trees) s.ante
  pub succ : All (IsId trees) s.succ
