use Rattle.std.proofs.Common.{ap}
use Rattle.dlk_shared.specs.Signs.{SignTable}
use Rattle.dlk_shared.proofs.SignLemmas.{rows_keep_signs}
use Rattle.dlk_shared.proofs.signs.SignTable.keep.Goals as goal

pub returns-clause-keeps : goal.returns-clause-keeps
returns-clause-keeps c =
    rows_keep_signs c.args.self.now c.self.inside.syms.keys c.self.inside.rows c.keep.new.self
    (ap (λ (t : SignTable). t.syms) c.self.view_is) (ap (λ (t : SignTable). t.signs) c.self.view_is) c.keep.ensures.keeps
