use Rattle.dlk_replay.proofs.SaidSteps.{accepted_says_steps, accepted_as_many, accepted_takes_steps}
use Rattle.dlk_replay.proofs.laws.accepted_says_steps.Goals as goal

pub returns-clause-some : goal.returns-clause-some
returns-clause-some c = accepted_says_steps

pub returns-clause-as_many : goal.returns-clause-as_many
returns-clause-as_many c = accepted_as_many

pub returns-clause-taken : goal.returns-clause-taken
returns-clause-taken c = accepted_takes_steps
