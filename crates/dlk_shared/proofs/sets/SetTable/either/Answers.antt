use Rattle.std.proofs.Common.{ap}
use Rattle.dlk_tree.specs.Statics.{either}
use Rattle.dlk_shared.specs.SetTables.{SetTable}
use Rattle.dlk_shared.proofs.SetLemmas.{rows_keep, picked_makes}
use Rattle.dlk_shared.proofs.sets.SetTable.either.Goals as goal

pub returns-clause-makes : goal.returns-clause-makes
returns-clause-makes c =
    picked_makes c.union.result either c.args.self.now c.args.a c.args.b c.self.inside.vars c.self.inside.rows c.union.new.self
    (ap (λ (t : SetTable). t.vars) c.self.view_is) (ap (λ (t : SetTable). t.sets) c.self.view_is) c.union.ensures.known c.union.ensures.vars

pub returns-clause-keeps : goal.returns-clause-keeps
returns-clause-keeps c =
    rows_keep c.args.self.now c.self.inside.vars c.self.inside.rows c.union.new.self
    (ap (λ (t : SetTable). t.vars) c.self.view_is) (ap (λ (t : SetTable). t.sets) c.self.view_is) c.union.ensures.keeps
