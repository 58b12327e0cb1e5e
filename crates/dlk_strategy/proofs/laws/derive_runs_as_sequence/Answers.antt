use Rattle.std.proofs.Common.{sym, subst}
use Rattle.dlk_strategy.specs.Runs.{Fate}
use Rattle.dlk_strategy.proofs.Uses.{as_sequence}
use Rattle.dlk_strategy.proofs.laws.derive_runs_as_sequence.Goals as goal

pub returns-clause-sequence : goal.returns-clause-sequence
returns-clause-sequence c = λ byte place calls goals goal now o h. subst (λ (f : Fate). f now o) (as_sequence byte place calls goals goal) h

pub returns-clause-uses : goal.returns-clause-uses
returns-clause-uses c = λ byte place calls goals goal now o h. subst (λ (f : Fate). f now o) (sym (as_sequence byte place calls goals goal)) h
