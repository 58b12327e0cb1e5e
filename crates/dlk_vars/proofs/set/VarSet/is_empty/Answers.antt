use Rattle.dlk_vars.proofs.Words.{meets_itself}
use Rattle.dlk_vars.proofs.Members.{some_nonempty}
use Rattle.dlk_vars.proofs.set.VarSet.is_empty.Goals as goal

pub returns-clause-numbers : goal.returns-clause-numbers
returns-clause-numbers c = meets_itself c.meets.result c.args.self.now c.meets.ensures.numbers

pub returns-clause-vars : goal.returns-clause-vars
returns-clause-vars c = some_nonempty _ c.args.self.now (returns-clause-numbers c)
