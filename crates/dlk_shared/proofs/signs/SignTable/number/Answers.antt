use Rattle.std.proofs.Common.{ap}
use Rattle.dlk_tree.specs.contracts.op.SymPartialEq.TheImpl as SymEq
use Rattle.dlk_shared.specs.Signs.{SignTable}
use Rattle.dlk_shared.proofs.SignLemmas.{inserted_keeps}
use Rattle.dlk_shared.proofs.signs.SignTable.number.Goals as goal

pub returns-clause-keeps : goal.returns-clause-keeps
returns-clause-keeps c =
    inserted_keeps SymEq.ghosts.eq c.args.self.now c.self.inside.syms.keys c.insert_full.new.self.keys c.self.inside.rows c.in_ok-clone.field-0
    (ap (λ (t : SignTable). t.syms) c.self.view_is) (ap (λ (t : SignTable). t.signs) c.self.view_is) c.in_ok-n.ensures.keys
