use Rattle.dlk_sequent.specs.Growth.{pairs_at-kept}
use Rattle.dlk_sequent.proofs.KeptPairs.{IsMadeOver-kept}
use Rattle.dlk_sequent.proofs.laws.substitution_stays.Goals as goal

pub returns-clause-made : goal.returns-clause-made
returns-clause-made c = λ old new sigma keeps made. IsMadeOver-kept keeps made

pub returns-clause-same : goal.returns-clause-same
returns-clause-same c = λ old new sigma keeps made. pairs_at-kept keeps sigma.pairs made.known
