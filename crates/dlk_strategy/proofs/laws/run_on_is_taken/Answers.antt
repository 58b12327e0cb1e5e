use Rattle.dlk_elab.proofs.Elaborates.{taken_proper}
use Rattle.dlk_strategy.proofs.OnGoal.{on_taken}
use Rattle.dlk_strategy.proofs.laws.run_on_is_taken.Goals as goal

pub returns : goal.returns
returns c =
    let taken = on_taken c.atom_is_taken.ensures in
    record {
      taken = taken;
      proper = λ t rows goal used made left r. taken_proper rows made.rows made.steps (taken t rows goal used made left r);
    }
