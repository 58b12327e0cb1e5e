-- What an atom asks for, where the steps that it asks for are proper.
use Rattle.std.proofs.Common.{ℕ, List, length}
use Rattle.std.specs.List.{All}
use Rattle.dlk_calculus.specs.Provables.{Provable}
use Rattle.dlk_calculus.specs.Sequents.{Sequent}
use Rattle.dlk_calculus.specs.Steps.{IsProper}
use Rattle.dlk_kernel.specs.Taken.{Takes}
use Rattle.dlk_tacsyn.specs.Tactics.{Atom}
use Rattle.dlk_elab.specs.Atoms.{Asked, Steps, Instance, Refused, Asks, instance_of}
use Rattle.dlk_elab.proofs.ProperUses.{GoesBehind}

module _ (rows : List Provable) (fact goal : ℕ) (s : Sequent) where
  -- the steps are proper, and so are those behind an instance
  abbrev pub AreProperSteps : Asked → Type 0
  AreProperSteps (Steps steps) = All IsProper steps
  AreProperSteps (Instance used extra e) =
      All IsProper (instance_of (length rows) used extra) × ((between : List Provable) → Takes rows (instance_of (length rows) used extra) between →
      GoesBehind between (record { fact = fact; goal = goal; s = s }) used e)
  AreProperSteps (Refused why) = Unit {0}

  pub record Wants (atom : Atom) : Type 0 where
    pub asked : Asked
    pub asks : Asks (length rows) fact goal s atom asked
    pub proper : AreProperSteps asked
