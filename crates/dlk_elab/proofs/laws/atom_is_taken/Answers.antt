use Rattle.dlk_elab.proofs.StepSymbols.{atom_taken}
use Rattle.dlk_elab.proofs.laws.atom_is_taken.Goals as goal

pub returns : goal.returns
returns c = atom_taken
