use Rattle.std.proofs.Common.{subst}
use Rattle.dlk_shared.specs.RowTables.{IsEmptyAt}
use Rattle.dlk_shared.proofs.rows.RowTable.none.Goals as goal

pub returns-in-Some-clause-empty : goal.returns-in-Some-clause-empty
returns-in-Some-clause-empty c = subst (λ l. IsEmptyAt l c.in-Some.n) c.self.view_is (c.self.invariant.at c.in-Some.n c.in-Some.is)
