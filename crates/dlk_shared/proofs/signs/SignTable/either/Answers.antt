use Rattle.std.proofs.Common.{ap}
use Rattle.dlk_shared.specs.Signs.{SignTable}
use Rattle.dlk_shared.proofs.SignLemmas.{rows_keep_signs, union_signs}
use Rattle.dlk_shared.proofs.signs.SignTable.either.Goals as goal

pub returns-clause-signs : goal.returns-clause-signs
returns-clause-signs c =
    union_signs c.union.result c.args.self.now c.args.a c.args.b c.self.inside.syms.keys c.self.inside.rows c.union.new.self
    (ap (λ (t : SignTable). t.syms) c.self.view_is) (ap (λ (t : SignTable). t.signs) c.self.view_is)
    c.requires.first c.requires.second c.union.ensures.known c.union.ensures.numbers

pub returns-clause-keeps : goal.returns-clause-keeps
returns-clause-keeps c =
    rows_keep_signs c.args.self.now c.self.inside.syms.keys c.self.inside.rows c.union.new.self
    (ap (λ (t : SignTable). t.syms) c.self.view_is) (ap (λ (t : SignTable). t.signs) c.self.view_is) c.union.ensures.keeps
