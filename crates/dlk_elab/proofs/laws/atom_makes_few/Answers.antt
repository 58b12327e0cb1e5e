use Rattle.dlk_elab.proofs.FewSteps.{atom_few}
use Rattle.dlk_elab.proofs.laws.atom_makes_few.Goals as goal

pub returns : goal.returns
returns c = atom_few c.uses_rename_few.ensures
