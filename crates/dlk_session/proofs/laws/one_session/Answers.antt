use Rattle.dlk_session.proofs.Turning.{turn_one, turns_one}
use Rattle.dlk_session.proofs.laws.one_session.Goals as goal

pub returns-clause-line : goal.returns-clause-line
returns-clause-line g c = turn_one g.R.Runner.becomes c.laws.ensures.one

pub returns-clause-lines : goal.returns-clause-lines
returns-clause-lines g c = turns_one g.R.Runner.becomes c.laws.ensures.one
