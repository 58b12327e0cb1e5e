use Rattle.dlk_calculus.proofs.Histories.{History-derives, Derives-ends}
use Rattle.dlk_calculus.proofs.laws.history_derives.Goals as goal

pub returns-clause-rows : goal.returns-clause-rows
returns-clause-rows c = History-derives

pub returns-clause-ends : goal.returns-clause-ends
returns-clause-ends c = Derives-ends
