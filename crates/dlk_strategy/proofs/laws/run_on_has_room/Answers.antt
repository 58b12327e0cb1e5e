use Rattle.dlk_strategy.proofs.OnGoal.{on_room}
use Rattle.dlk_strategy.proofs.laws.run_on_has_room.Goals as goal

pub returns : goal.returns
returns c = on_room c.atom_is_taken.ensures c.atom_makes_few.ensures c.atom_has_room.ensures
