use Rattle.dlk_sequent.specs.Sequents.{sequent_at}
use Rattle.dlk_elab.proofs.Sames.{ClearLeft}
use Rattle.dlk_elab.proofs.same.first_same.Given as goal

-- none of the formulas so far stands on the right
abbrev pub invariant-loop-i : goal.invariant-loop-i
invariant-loop-i g l = ClearLeft (sequent_at (g.S.Store.trees l.store) l.s) l.i
