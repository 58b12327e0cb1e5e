use Rattle.std.proofs.Common.{ap}
use Rattle.dlk_shared.specs.SetTables.{SetTable}
use Rattle.dlk_shared.proofs.SetLemmas.{rows_keep}
use Rattle.dlk_shared.proofs.sets.SetTable.keep.Goals as goal

pub returns-clause-keeps : goal.returns-clause-keeps
returns-clause-keeps c =
    rows_keep c.args.self.now c.self.inside.vars c.self.inside.rows c.keep.new.self
    (ap (λ (t : SetTable). t.vars) c.self.view_is) (ap (λ (t : SetTable). t.sets) c.self.view_is) c.keep.ensures.keeps
