use Rattle.dlk_library.proofs.SomeExpansion.{some_become}
use Rattle.dlk_library.proofs.laws.some_expansion.Goals as goal

pub returns : goal.returns
returns c = some_become
