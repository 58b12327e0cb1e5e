use Rattle.dlk_library.proofs.OneExpansion.{one_meaning, one_become}
use Rattle.dlk_library.proofs.laws.one_expansion.Goals as goal

pub returns-clause-names : goal.returns-clause-names
returns-clause-names c = one_meaning

pub returns-clause-strategies : goal.returns-clause-strategies
returns-clause-strategies c = one_become
