use Rattle.dlk_shared.proofs.SetLemmas.{without_none}
use Rattle.dlk_shared.proofs.sets.SetTable.without.Goals as goal

pub returns-then-is_none-clause-makes : goal.returns-then-is_none-clause-makes
returns-then-is_none-clause-makes c = without_none (c.is_none.ensures.none c.if-is_none.true)
