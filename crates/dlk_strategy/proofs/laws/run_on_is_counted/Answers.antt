use Rattle.dlk_strategy.proofs.OnGoal.{on_counted, on_failed}
use Rattle.dlk_strategy.proofs.laws.run_on_is_counted.Goals as goal

pub returns-clause-done : goal.returns-clause-done
returns-clause-done c = λ t rows goal used made left few r.
    let h = on_counted c.atom_makes_few.ensures t rows goal used made left r in
    (h.counted.rises, h.counted.within few, h.steps)

pub returns-clause-fails : goal.returns-clause-fails
returns-clause-fails c = λ t rows goal used at count why few r.
    let h = on_failed c.atom_makes_few.ensures t rows goal used at count why r in
    (h.rises, h.within few)
