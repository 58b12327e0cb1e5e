use Rattle.dlk_calculus.proofs.PathLaws.{subtree_made, subtree_lacks}
use Rattle.dlk_calculus.proofs.laws.subtrees_keep.Goals as goal

pub returns-clause-made : goal.returns-clause-made
returns-clause-made c = subtree_made

pub returns-clause-lack : goal.returns-clause-lack
returns-clause-lack c = subtree_lacks
