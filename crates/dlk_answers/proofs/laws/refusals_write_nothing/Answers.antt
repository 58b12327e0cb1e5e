use Rattle.dlk_answers.proofs.CarriedOut.{carried_out}
use Rattle.dlk_answers.proofs.laws.refusals_write_nothing.Goals as goal

pub returns-clause-status : goal.returns-clause-status
returns-clause-status c = λ command words texts reply responds. (carried_out command words texts reply responds).status

pub returns-clause-refusal : goal.returns-clause-refusal
returns-clause-refusal c = λ command words texts reply responds. (carried_out command words texts reply responds).refusal
