use Rattle.dlk_elab.proofs.FewSteps.{atom_room}
use Rattle.dlk_elab.proofs.laws.atom_has_room.Goals as goal

pub returns : goal.returns
returns c = atom_room c.uses_rename_few.ensures
