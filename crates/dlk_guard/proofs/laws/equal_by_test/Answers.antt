use Rattle.std.proofs.Common.{refl}
use Rattle.dlk_tree.proofs.TreeSame.{tree_decides}
use Rattle.dlk_guard.proofs.laws.equal_by_test.Goals as goal

pub returns-clause-same : goal.returns-clause-same
returns-clause-same c = λ s t e. (tree_decides s t).0 e

pub returns-clause-itself : goal.returns-clause-itself
returns-clause-itself c = λ t. (tree_decides t t).1 refl
