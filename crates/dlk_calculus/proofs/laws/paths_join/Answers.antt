use Rattle.dlk_calculus.proofs.PathLaws.{subtree_join, put_join, subtree_before}
use Rattle.dlk_calculus.proofs.laws.paths_join.Goals as goal

pub returns-clause-subtree : goal.returns-clause-subtree
returns-clause-subtree c = subtree_join

pub returns-clause-put : goal.returns-clause-put
returns-clause-put c = put_join

pub returns-clause-way : goal.returns-clause-way
returns-clause-way c = subtree_before
