use Rattle.std.proofs.Common.{[]}
use Rattle.dlk_elab.proofs.Elaborates.{taken_proper}
use Rattle.dlk_strategy.proofs.TakenSteps.{run_taken}
use Rattle.dlk_strategy.proofs.laws.run_is_taken.Goals as goal

pub returns : goal.returns
returns c =
    let taken = run_taken c.atom_is_taken.ensures in
    record {
      taken = λ t formula made left r. taken r.expansion formula made left r.runs;
      proper = λ t formula made left r. taken_proper [] made.rows made.steps (taken r.expansion formula made left r.runs);
    }
