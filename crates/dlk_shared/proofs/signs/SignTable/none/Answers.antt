use Rattle.std.proofs.Common.{ap}
use Rattle.dlk_shared.specs.Signs.{SignTable}
use Rattle.dlk_shared.proofs.SignLemmas.{rows_keep_signs, empty_signs}
use Rattle.dlk_shared.proofs.signs.SignTable.none.Goals as goal

pub returns-clause-signs : goal.returns-clause-signs
returns-clause-signs c = empty_signs c.none.result c.self.inside.syms.keys c.none.new.self c.none.ensures.empty

pub returns-clause-keeps : goal.returns-clause-keeps
returns-clause-keeps c =
    rows_keep_signs c.args.self.now c.self.inside.syms.keys c.self.inside.rows c.none.new.self
    (ap (λ (t : SignTable). t.syms) c.self.view_is) (ap (λ (t : SignTable). t.signs) c.self.view_is) c.none.ensures.keeps
