use Rattle.std.proofs.Common.{ap}
use Rattle.dlk_shared.specs.SetTables.{SetTable}
use Rattle.dlk_shared.proofs.SetLemmas.{rows_keep, empty_means}
use Rattle.dlk_shared.proofs.sets.SetTable.none.Goals as goal

pub returns-clause-means : goal.returns-clause-means
returns-clause-means c = empty_means c.none.result c.self.inside.vars c.none.new.self c.none.ensures.empty

pub returns-clause-keeps : goal.returns-clause-keeps
returns-clause-keeps c =
    rows_keep c.args.self.now c.self.inside.vars c.self.inside.rows c.none.new.self
    (ap (λ (t : SetTable). t.vars) c.self.view_is) (ap (λ (t : SetTable). t.sets) c.self.view_is) c.none.ensures.keeps
