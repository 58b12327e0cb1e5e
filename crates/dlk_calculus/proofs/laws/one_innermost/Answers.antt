use Rattle.dlk_calculus.proofs.Innermost.{one_innermost, some_innermost}
use Rattle.dlk_calculus.proofs.laws.one_innermost.Goals as goal

pub returns-clause-one : goal.returns-clause-one
returns-clause-one c = one_innermost

pub returns-clause-some : goal.returns-clause-some
returns-clause-some c = some_innermost
